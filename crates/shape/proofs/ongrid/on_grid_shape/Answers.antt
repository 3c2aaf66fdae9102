-- `shape::ongrid::on_grid_shape` tests the coordinates of a MultiPolygon, x and then y, and of no other shape. Assumes nothing.
use mathlib.Core.Path.{sym, ◌∙◌}
use borrow.Author.Tests.{eq-eqb, ne_eqb}
use Rattle.answer.proofs.Both.{first-fails, then}
use Rattle.shape.specs.Rules.{on_grid_shape}
use Rattle.shape.proofs.OnlyIf.{skipped, decides}
use Rattle.shape.proofs.ongrid.on_grid_shape.Goals as goal

pub returns-then-t-ne-MULTI_POLYGON : goal.returns-then-t-ne-MULTI_POLYGON
unfolding on_grid_shape
returns-then-t-ne-MULTI_POLYGON c = skipped _ _ (ne_eqb _ _ c.if-t-ne-MULTI_POLYGON.true)

pub returns-then-all_on_grid : goal.returns-then-all_on_grid
unfolding on_grid_shape
returns-then-all_on_grid c =
    decides _ _ _ (eq-eqb _ _ c.if-t-ne-MULTI_POLYGON.false) (then _ _ _ (sym c.all_on_grid.ensures ∙ c.if-all_on_grid.true) c.all_on_grid-then-all_on_grid.ensures)

pub returns-else-all_on_grid : goal.returns-else-all_on_grid
unfolding on_grid_shape
returns-else-all_on_grid c =
    decides _ _ _ (eq-eqb _ _ c.if-t-ne-MULTI_POLYGON.false) (c.if-all_on_grid.false ∙ first-fails _ _ (sym c.all_on_grid.ensures ∙ c.if-all_on_grid.false))
