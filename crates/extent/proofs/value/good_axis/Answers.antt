-- `extent::value::good_axis` makes three tests of two keys: in order, the first not too low, the second not too high. Assumes nothing.
use Rattle.std.proofs.Common.{ℕ, ◌-◌, ◌^◌, ◌≤◌, ltb, ap, ◌∙◌, arith, le-ltb}
use borrow.Author.Tests.{lt-leb}
use Rattle.extent.proofs.Axes.{axis-test, axis-low, axis-reversed}
use Rattle.extent.proofs.value.good_axis.Goals as goal
use Rattle.extent.proofs.value.good_axis.Goals.{then-low-high, else-low-high}

pub returns-then-low-gt4503599627370496 : goal.returns-then-low-gt4503599627370496
returns-then-low-gt4503599627370496 c =
    let a = c.key-low.ensures in
    let b = c.key-high.ensures in
    ap (λ (n : ℕ). ltb n (2 ^ 64 - 2 ^ 52)) b ∙ axis-test _ _ (omega (arith, a, b)) (omega (arith, a, c.if-low-gt4503599627370496.true))

pub returns-else-low-gt4503599627370496 : goal.returns-else-low-gt4503599627370496
returns-else-low-gt4503599627370496 c =
    let a = c.key-low.ensures in
    let b = c.key-high.ensures in
    elim c.if-low-high.branch [
      | then-low-high w ↦ let h : c.key-low.result ≤ 2 ^ 52 = omega arith in w.t-6-is ∙ le-ltb _ _ h ∙ axis-low _ _ (omega (arith, a, h))
      | else-low-high w ↦ w.t-6-is ∙ lt-leb _ _ w.if-low-high.false ∙ axis-reversed _ _ (omega (arith, a, b, w.if-low-high.false))
    ]
