-- `types::rows::row_of` gives the row of a type: the code's table is that of document 01, row for row, by computation. Assumes nothing.
use mathlib.Core.Path.{refl}
use Rattle.types.specs.Types.{type_row}
use Rattle.types.proofs.rows.row_of.Goals as goal

pub returns : goal.returns
unfolding type_row
returns c = refl
