-- `mask` gives the w low bits: by shifting up and down again, or 0 where w is 0. Assumes nothing.
use Rattle.le.proofs.Fields.{mask-law}
use mathlib.Core.Path.{sym, ap, ◌∙◌}
use Prim.Native.Nat.{ℕ, ◌^◌, ◌%◌}
use native.Mathlib.Nat.{mod-one}
use native.Mathlib.Omega.{arith}
use Rattle.le.proofs.bits.mask.Goals as goal

pub returns-then-w-eq0 : goal.returns-then-w-eq0
returns-then-w-eq0 c = sym (ap (λ (w : ℕ). c.args.x % 2 ^ w) c.if-w-eq0.true ∙ mod-one c.args.x)

pub returns : goal.returns
returns c = mask-law c.args.x c.args.w (omega arith)
