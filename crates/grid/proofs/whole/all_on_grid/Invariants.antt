-- `grid::whole::all_on_grid` meets its contract. The invariant: whether a bit is set so far, and those to come, decide. Assumes nothing.
use mathlib.Core.Path.{◌≡◌}
use mathlib.Core.Bool.{◌&&◌}
use lib.Dec.{eqb}
use lib.ListN.{drop}
use Rattle.grid.specs.Grid.{all_on_grid}
use Rattle.grid.proofs.whole.all_on_grid.Given as goal

abbrev pub invariant-loop-b : goal.invariant-loop-b
invariant-loop-b l = (eqb l.off 0 && all_on_grid (drop l.b-index l.vs)) ≡ all_on_grid l.vs
