-- `field` gives the field of w bits at a bit place: from one word, or from the window. Assumes nothing.
use mathlib.Core.Path.{ap, ◌∙◌}
use Prim.Native.Nat.{ℕ, ◌%◌, ◌^◌}
use Rattle.le.proofs.Fields.{mod-le-pow, near-law}
use Rattle.le.specs.Number.{number}
use Rattle.le.proofs.bits.field.Goals as goal

pub returns-then-w-le56 : goal.returns-then-w-le56
returns-then-w-le56 c = c.mask.ensures ∙ near-law (number c.args.s.now) c.args.at c.args.w c.load.result c.if-w-le56.true c.load.ensures

pub returns : goal.returns
returns c = c.mask-2.ensures ∙ ap (λ (x : ℕ). x % 2 ^ c.args.w) c.window.ensures ∙ mod-le-pow _ c.args.w 64 c.requires
