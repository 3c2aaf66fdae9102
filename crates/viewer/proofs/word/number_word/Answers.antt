-- `number_word` is the word of a refusal that concerns no page. Assumes nothing.
use mathlib.Core.Path.{◌∙◌}
use Rattle.viewer.proofs.word.number_word.Goals as goal

pub returns : goal.returns
returns c = c.refusal_word.ensures ∙ rw c.because.ensures
