-- `le::bits::window_in_last_byte` gives what is left of the last byte. Nothing is assumed.
use mathlib.Core.Path.{ap, ◌∙◌}
use Prim.Native.Nat.{ℕ, ◌-◌, ◌*◌, ◌/◌, ◌^◌}
use native.Mathlib.Omega.{arith}
use lib.ListN.{length}
use Rattle.le.specs.Number.{Bytes}
use Rattle.le.proofs.Numbers.{rest-law}
use Rattle.le.proofs.bits.window_in_last_byte.Goals as goal

pub returns : goal.returns
returns c =
    let a = c.args in
    let i = length a.s.now - 1 in
    let h : Bytes a.s.now = λ j. (c.shared_slice_known-1.given j).fits in
    ap (λ (x : ℕ). x / 2 ^ (a.at - 8 * i)) c.wide.ensures ∙ rest-law a.s.now i a.at h (omega arith) (omega (arith, c.requires.0, c.requires.1))
