-- `put_state` puts `state_words`. Assumes nothing.
use mathlib.Core.Path.{◌∙◌}
use Rattle.viewer.specs.Four.{state_words}
use Rattle.viewer.proofs.state.put_state.Goals as goal

pub returns : goal.returns
unfolding state_words
returns c = c.put_four.ensures ∙ rw c.flag_of.ensures
