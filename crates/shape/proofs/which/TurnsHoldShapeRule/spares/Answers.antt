-- `shape::which::TurnsHoldShapeRule::spares` says of which types the rule says nothing. Assumes nothing.
use mathlib.Core.Path.{refl}
use Rattle.shape.specs.Which.{no_multi_polygon}
use Rattle.shape.proofs.which.TurnsHoldShapeRule.spares.Goals as goal

pub returns : goal.returns
unfolding no_multi_polygon
returns c = refl
