-- `grid::turning::turn` meets its contract. The invariant: the sum so far and the vertices to come make the turn, and the sum is at most 2 ^ 49 for
-- each vertex passed, so it fits. Assumes nothing.
use Rattle.grid.proofs.Turns.{Turning}
use Rattle.grid.proofs.turning.turn.Given as goal

abbrev pub invariant-loop-i : goal.invariant-loop-i
invariant-loop-i l = Turning l.xs l.ys l.i l.x l.y l.sum
