-- `position_of` is `position_of`, word by word. Assumes nothing.
use mathlib.Core.Path.{refl}
use Rattle.viewer.specs.Four.{position_of}
use Rattle.viewer.proofs.position.position_of.Goals as goal

pub returns : goal.returns
unfolding position_of
returns c = refl
