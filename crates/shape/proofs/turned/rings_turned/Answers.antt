-- `shape::turned::rings_turned` tests the first ring, and then the others over what is left of the lists. Assumes nothing.
use mathlib.Core.Path.{◌≡◌, sym, ap, ◌∙◌}
use lib.ListN.{take}
use Rattle.std.proofs.Common.{rules}
use Rattle.grid.specs.Turn.{turn_of, clockwise}
use Rattle.shape.specs.Ready.{Gridded}
use Rattle.shape.specs.Rules.{turn_not_zero}
use Rattle.shape.proofs.Cuts.{gridded-part, turn-back}
use Rattle.shape.proofs.Turning.{turned_none, first-there, cut-rest, gridded-rest, turned-rest, turned-wrong}
use Rattle.shape.proofs.turned.rings_turned.Goals as goal
use Rattle.shape.proofs.turned.rings_turned.Goals.{After-clockwise}

-- the first ring's turn
first : (c : After-clockwise) → c.clockwise.result ≡ clockwise (turn_of (take c.in-Some.n.now c.args.xs.now) (take c.in-Some.n.now c.args.ys.now))
first c =
    let g : Gridded c.split_at.result.0.now c.split_at-2.result.0.now =
    rw (c.split_at.ensures.front, c.split_at-2.ensures.front) (gridded-part 0 c.in-Some.n.now _ _ c.requires.1) in
    rw (← c.split_at.ensures.front, ← c.split_at-2.ensures.front) (c.clockwise.ensures ∙ ap clockwise (turn-back _ _ c.turn.result c.turn.ensures g))

pub returns-in_default : goal.returns-in_default
returns-in_default c = turned_none _ _ _ c.in_default.ensures.cases

pub split_at-requires : goal.split_at-requires
split_at-requires c = first-there _ c.in-Some.others.now _ _ (rw c.in-Some.ensures.cases.0 at c.requires.0)

pub turn-requires : goal.turn-requires
turn-requires c =
    let g = gridded-part 0 c.in-Some.n.now _ _ c.requires.1 in
    rw (c.split_at.ensures.front, c.split_at-2.ensures.front) (g.same, g.few, g.grid_x, g.grid_y)

pub all_parts-requires-clause-cut : goal.all_parts-requires-clause-cut
all_parts-requires-clause-cut c = rw (c.split_at.ensures.back, c.split_at-2.ensures.back) (cut-rest _ _ _ _ (rw c.in-Some.ensures.cases.0 at c.requires.0))

pub all_parts-requires-clause-callable : goal.all_parts-requires-clause-callable
all_parts-requires-clause-callable c = λ at n x y p q.
    rw (p, q) (rw (c.split_at.ensures.back, c.split_at-2.ensures.back) (gridded-part at n _ _ (gridded-rest _ _ _ c.requires.1)))

pub returns-then-clockwise : goal.returns-then-clockwise
returns-then-clockwise c =
    let e = c.all_parts.ensures turn_not_zero (record { says = λ x y r k. search rules }) in
    rw c.in-Some.ensures.cases.0 (
    turned-rest _ _ _ _ _ (sym (first (goal.at.returns-then-clockwise c).After-clockwise) ∙ c.if-clockwise.true)
    (rw (← c.split_at.ensures.back, ← c.split_at-2.ensures.back) e)
    )

pub returns-else-clockwise : goal.returns-else-clockwise
returns-else-clockwise c =
    c.if-clockwise.false
    ∙ rw c.in-Some.ensures.cases.0 (turned-wrong _ _ _ _ (sym (first (goal.at.returns-else-clockwise c).After-clockwise) ∙ c.if-clockwise.false))
