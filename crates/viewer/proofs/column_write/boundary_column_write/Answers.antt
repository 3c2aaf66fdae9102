-- `viewer::column_write::boundary_column_write` tells the column written. Assumes nothing.
use Rattle.viewer.proofs.Telling.{told-filled}
use Rattle.viewer.proofs.column_write.boundary_column_write.Goals as goal

pub returns : goal.returns
returns c = told-filled _ _ _ c.write.ensures c.filled_word.ensures
