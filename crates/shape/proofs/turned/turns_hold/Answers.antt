-- `shape::turned::turns_hold` tests the rings of a MultiPolygon, and of no other shape. Assumes nothing.
use borrow.Author.Tests.{eq-eqb, ne_eqb}
use Rattle.answer.proofs.Both.{both_l, both_r}
use Rattle.grid.specs.Grid.{all_on_grid}
use Rattle.shape.specs.Rules.{on_grid_shape, turns_hold}
use Rattle.shape.proofs.OnlyIf.{skipped, decides, decided}
use Rattle.shape.proofs.turned.turns_hold.Goals as goal

pub rings_turned-requires : goal.rings_turned-requires
unfolding on_grid_shape
rings_turned-requires c =
    let g = decided _ _ (eq-eqb _ _ c.if-t-ne-MULTI_POLYGON.false) c.requires.ys_value in
    let x = all_on_grid c.args.xs.now in
    let y = all_on_grid c.args.ys.now in
    (c.requires.cut, record { same = c.requires.cut.same; few = c.requires.xs_len_bound; grid_x = both_l x y g; grid_y = both_r x y g })

pub returns-then-t-ne-MULTI_POLYGON : goal.returns-then-t-ne-MULTI_POLYGON
unfolding turns_hold
returns-then-t-ne-MULTI_POLYGON c = skipped _ _ (ne_eqb _ _ c.if-t-ne-MULTI_POLYGON.true)

pub returns-else-t-ne-MULTI_POLYGON : goal.returns-else-t-ne-MULTI_POLYGON
unfolding turns_hold
returns-else-t-ne-MULTI_POLYGON c = decides _ _ _ (eq-eqb _ _ c.if-t-ne-MULTI_POLYGON.false) c.rings_turned.ensures
