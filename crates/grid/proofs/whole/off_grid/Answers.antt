-- `grid::whole::off_grid` meets its contract: by the pattern's low 63 bits, one law for each range of them. Assumes nothing.
use native.Mathlib.Omega.{arith}
use Rattle.grid.proofs.Digits.{on-grid-small, on-grid-large, on-grid-between}
use Rattle.grid.proofs.whole.off_grid.Goals as goal

pub returns-then-m-lt4607182418800017408 : goal.returns-then-m-lt4607182418800017408
returns-then-m-lt4607182418800017408 c = on-grid-small c.args.b (omega arith)

pub returns-then-m-gt4715268809856909312 : goal.returns-then-m-gt4715268809856909312
returns-then-m-gt4715268809856909312 c = on-grid-large c.args.b (omega arith)

pub returns : goal.returns
returns c = on-grid-between c.args.b (omega arith) (omega arith)
