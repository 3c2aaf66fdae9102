-- `without_room` tells what is refused before the room, else 2. Assumes nothing.
use Rattle.viewer.proofs.Finding.{bare-refused, bare-shape}
use Rattle.viewer.proofs.file_fetch.without_room.Goals as goal

pub returns-in-Err : goal.returns-in-Err
returns-in-Err c = bare-refused _ _ _ _ c.fetch.ensures.answer _ _ c.in-Err.is c.refusal_word.ensures

pub returns-in-Ok : goal.returns-in-Ok
returns-in-Ok c = bare-shape _ _ _ _ c.fetch.ensures.answer _ _ c.in-Ok.is c.number_word.ensures
