-- `field_within` gives the field of w bits at a bit place, from nine bytes that are there, by the marker. Assumes nothing.
use mathlib.Core.Path.{ap₂, ◌∙◌}
use Prim.Native.Nat.{◌/◌, ◌%◌, ◌^◌}
use lib.Bits.{bit_and, and_mask}
use Rattle.le.specs.Number.{number}
use Rattle.le.proofs.Fields.{mod-le-pow, near-field}
use Rattle.le.proofs.Numbers.{number-at}
use Rattle.le.proofs.bits.field_within.Goals as goal

pub returns-then-w-le56 : goal.returns-then-w-le56
returns-then-w-le56 c =
    near-field (number c.args.s.now) c.args.at c.args.w c.args.m c.u64_at.result c.if-w-le56.true c.requires.1 (c.u64_at.ensures ∙ number-at 8 _ _ (λ i. (c.shared_slice_known-1.given i).fits))

pub returns : goal.returns
returns c =
    ap₂ bit_and c.window_within.ensures c.requires.1 ∙ and_mask (number c.args.s.now / 2 ^ c.args.at % 2 ^ 64) c.args.w ∙ mod-le-pow _ c.args.w 64 c.requires.0
