-- `viewer::word::refusal_word` is the word of a refusal. Assumes nothing.
use Rattle.viewer.proofs.Words.{refusal_is}
use Rattle.viewer.proofs.word.refusal_word.Goals as goal

pub returns : goal.returns
returns c = refusal_is c.args.w
