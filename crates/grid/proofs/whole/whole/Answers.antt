-- `grid::whole::whole` meets its contract: on grid, but at -0, the cast to 64 bits is allowed and is the whole number. Assumes nothing.
use mathlib.Core.Path.{sym, ap, ◌∙◌, subst}
use Prim.Native.Nat.{◌^◌, ◌≤◌}
use native.Mathlib.Omega.{arith}
use lib.Dec.{T}
use lib.IntN.{ℤ, nat_abs}
use lib.Ieee.{Float, binary64, in_signed, to_signed}
use Rattle.grid.specs.Grid.{whole_of}
use Rattle.grid.proofs.Sizes.{back-64}
use Rattle.grid.proofs.OnGrid.{on-grid-finite, whole-small, cast-allowed-of, cast-whole-of, whole-of-minus-zero}
use Rattle.grid.proofs.whole.whole.Goals as goal

pub returns-then-b-eq9223372036854775808 : goal.returns-then-b-eq9223372036854775808
returns-then-b-eq9223372036854775808 c = (whole-of-minus-zero c.args.b c.if-b-eq9223372036854775808.true, omega arith)

pub float_of-requires : goal.float_of-requires
float_of-requires c = on-grid-finite c.args.b c.requires

pub float_to_int-result : goal.float_to_int-result
float_to_int-result c = subst (λ (x : Float). T (in_signed binary64 63 x)) (sym c.float_of.ensures.0) ((cast-allowed-of c.args.b c.ranges.b.fits c.requires c.if-b-eq9223372036854775808.false))

pub returns : goal.returns
returns c =
    let w = let b = c.args.b in
    back-64 (2 ^ 24) _ (whole_of b) (ap (to_signed 63) c.float_of.ensures.0 ∙ cast-whole-of b ((cast-allowed-of c.args.b c.ranges.b.fits c.requires c.if-b-eq9223372036854775808.false))) (whole-small b c.requires) (omega arith) in
    (w, subst (λ (z : ℤ). nat_abs z ≤ 2 ^ 24) (sym w) (whole-small c.args.b c.requires))
