-- `shape::turned::ring_turned` says whether a ring's turn is not zero. Assumes nothing.
use mathlib.Core.Path.{ap, ◌∙◌}
use mathlib.Core.Bool.{not}
use Rattle.grid.specs.Turn.{zero_turn}
use Rattle.shape.specs.Rules.{turn_not_zero, ring_turn}
use Rattle.shape.proofs.Cuts.{turn-back}
use Rattle.shape.proofs.turned.ring_turned.Goals as goal

pub turn-requires : goal.turn-requires
turn-requires c = let g = c.requires in (g.same, g.few, g.grid_x, g.grid_y)

pub returns : goal.returns
unfolding turn_not_zero ring_turn
returns c = ap not (c.no_turn.ensures ∙ ap zero_turn (turn-back c.args.xs.now c.args.ys.now c.turn.result c.turn.ensures c.requires))
