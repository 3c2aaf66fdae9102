-- `put_position` puts `position_words`. Assumes nothing.
use Rattle.viewer.specs.Four.{position_words}
use Rattle.viewer.proofs.position.put_position.Goals as goal

pub returns : goal.returns
unfolding position_words
returns c = c.put_four.ensures
