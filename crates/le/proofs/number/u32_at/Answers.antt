-- `u32_at` gives the number of four bytes: the upper half above the lower one. Nothing is assumed.
use native.Mathlib.Omega.{arith}
use Rattle.le.specs.Number.{Bytes}
use Rattle.le.proofs.Numbers.{number-at-join, number-at-lt}
use Rattle.le.proofs.number.u32_at.Goals as goal

pub overflow_mul-result : goal.overflow_mul-result
overflow_mul-result c = omega (arith, c.u16_at-2.ensures)

pub overflow_add-result : goal.overflow_add-result
overflow_add-result c = omega (arith, c.u16_at.ensures, c.u16_at-2.ensures)

pub returns : goal.returns
returns c =
    let a = c.args in
    let h : Bytes a.s.now = λ i. (c.shared_slice_known-1.given i).fits in
    omega (arith, c.u16_at.ensures.0, c.u16_at-2.ensures.0, number-at-join 2 2 a.s.now a.at h, number-at-lt 4 a.s.now a.at h)
