-- `u16_at` gives the number of two bytes. Assumes nothing.
use Prim.Native.Nat.{◌+◌}
use native.Mathlib.Omega.{arith}
use Rattle.le.specs.Number.{Bytes}
use Rattle.le.proofs.Numbers.{number-at-one, number-at-join, number-at-lt}
use Rattle.le.proofs.number.u16_at.Goals as goal

pub returns : goal.returns
returns c =
    let a = c.args in
    let h : Bytes a.s.now = λ i. (c.shared_slice_known-3-1.given i).fits in
    omega (arith, c.two.ensures, number-at-join 1 1 a.s.now a.at h, number-at-one a.s.now a.at h, number-at-one a.s.now (a.at + 1) h, number-at-lt 2 a.s.now a.at h)
