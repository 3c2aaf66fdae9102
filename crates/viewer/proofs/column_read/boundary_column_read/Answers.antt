-- `viewer::column_read::boundary_column_read` tells the column read. Assumes nothing.
use Rattle.viewer.proofs.Telling.{told-filled}
use Rattle.viewer.proofs.column_read.boundary_column_read.Goals as goal

pub returns : goal.returns
returns c = told-filled _ _ _ c.read.ensures c.filled_word.ensures
