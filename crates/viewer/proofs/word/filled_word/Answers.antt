-- `filled_word` is the word of what was put in a room, or of the refusal. Assumes nothing.
use Rattle.viewer.proofs.Telling.{start_is, refused-is}
use Rattle.viewer.proofs.word.filled_word.Goals as goal

pub returns-in-Ok : goal.returns-in-Ok
returns-in-Ok c = start_is _ _ c.in-Ok.is

pub returns-in-Err : goal.returns-in-Err
returns-in-Err c = refused-is _ _ _ c.in-Err.is c.refusal_word.ensures
