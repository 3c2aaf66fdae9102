-- `last` gives the bits from byte i on, from the last word. Assumes nothing.
use mathlib.Core.Path.{ap, ◌∙◌}
use Prim.Native.Nat.{ℕ, ◌-◌, ◌*◌, ◌/◌, ◌^◌}
use native.Mathlib.Omega.{arith}
use lib.ListN.{length}
use Rattle.le.proofs.Numbers.{number-at, last-law}
use Rattle.le.proofs.bits.last.Goals as goal

pub returns : goal.returns
returns c =
    let s = c.args.s.now in
    let f : ℕ = length s - 8 in
    ap (λ (x : ℕ). x / 2 ^ ((c.args.i - f) * 8)) (c.u64_at.ensures ∙ number-at 8 _ _ (λ i. (c.shared_slice_known-1.given i).fits))
    ∙ last-law s f c.args.i (λ i. (c.shared_slice_known-1.given i).fits) (omega (arith, c.requires.0)) (omega (arith, c.requires.2))
