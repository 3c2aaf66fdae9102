-- `le::bits::field_in_last_eight` takes the field from the last eight bytes, which have all the bits from its place on. Nothing is assumed.
use mathlib.Core.Path.{ap, ap₂, ◌∙◌}
use Prim.Native.Nat.{ℕ, ◌-◌, ◌*◌, ◌/◌, ◌^◌}
use native.Mathlib.Omega.{arith}
use lib.Bits.{bit_and, and_mask}
use lib.ListN.{length}
use Rattle.le.specs.Number.{Bytes, number}
use Rattle.le.proofs.Numbers.{number-at, closing-law}
use Rattle.le.proofs.bits.field_in_last_eight.Goals as goal

pub returns : goal.returns
returns c =
    let s = c.args.s.now in
    let at = c.args.at in
    let f : ℕ = length s - 8 in
    let h : Bytes s = λ i. (c.shared_slice_known-1.given i).fits in
    let word = c.u64_at.ensures ∙ number-at 8 s f h in
    λ w e. ap₂ bit_and (ap (λ (x : ℕ). x / 2 ^ (at - 8 * f)) word ∙ closing-law s f at h (omega (arith, c.requires.0)) c.requires.1) e ∙ and_mask (number s / 2 ^ at) w
