-- `text::lines::put_column` puts the words for the x column, or for the y column. Nothing is assumed.
use Rattle.text.specs.Pieces.{codes}
use Rattle.text.proofs.Places.{column-x, column-y}
use Rattle.text.proofs.lines.put_column.Goals as goal

pub returns-then-column-eq-X : goal.returns-then-column-eq-X
unfolding codes
returns-then-column-eq-X c =
    let put = c.put_words in
    record { puts = rw (← column-x c.args.column c.if-column-eq-X.true) put.ensures.puts; upper_bound = put.ensures.upper_bound }

pub returns : goal.returns
unfolding codes
returns c =
    let put = c.put_words-2 in
    record { puts = rw (← column-y c.args.column c.if-column-eq-X.false) put.ensures.puts; upper_bound = put.ensures.upper_bound }
