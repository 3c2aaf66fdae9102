-- `viewer::file_check::boundary_check` is the word of the full check's answer. Assumes nothing.
use Rattle.viewer.proofs.Words.{word_sound, word-refused}
use Rattle.viewer.proofs.file_check.boundary_check.Goals as goal

pub returns-in-Ok : goal.returns-in-Ok
returns-in-Ok c = word_sound _ _ c.check.ensures _ c.in-Ok.is

pub returns-in-Err : goal.returns-in-Err
returns-in-Err c = word-refused _ _ c.check.ensures _ _ c.in-Err.is c.refusal_word.ensures
