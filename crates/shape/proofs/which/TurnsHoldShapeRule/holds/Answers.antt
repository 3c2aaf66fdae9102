-- `shape::which::TurnsHoldShapeRule::holds` tests the turns of a shape that is on grid. Assumes nothing.
use Rattle.shape.proofs.Whiches.{turnable-few}
use Rattle.shape.proofs.which.TurnsHoldShapeRule.holds.Goals as goal

pub turns_hold-requires-clause-xs_len_bound : goal.turns_hold-requires-clause-xs_len_bound
turns_hold-requires-clause-xs_len_bound c = (turnable-few _ c.requires.ys_value).0

pub turns_hold-requires-clause-ys_value : goal.turns_hold-requires-clause-ys_value
turns_hold-requires-clause-ys_value c = (turnable-few _ c.requires.ys_value).1
