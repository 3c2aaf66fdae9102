-- `grid::whole::all_on_grid` meets its contract. The invariant: whether a bit is set so far, and those to come, decide. Assumes nothing.
use mathlib.Core.Path.{refl, ◌∙◌}
use Rattle.grid.proofs.OnGrid.{walk_more, walk-done}
use Rattle.grid.proofs.whole.all_on_grid.Goals as goal

pub loop-b-init : goal.loop-b-init
loop-b-init c = refl

pub loop-b-preserved : goal.loop-b-preserved
loop-b-preserved c =
    let l = c.loop-b in
    walk_more c.args.vs.now l.b-index l.off c.off_grid-off.result c.loop-b-test.true c.off_grid-off.ensures ∙ l.invariant

pub returns : goal.returns
returns c = let l = c.loop-b in walk-done _ l.b-index l.off c.loop-b-test.false ∙ l.invariant
