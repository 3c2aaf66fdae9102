-- `text::lines::put_where` puts a column and a value, or nothing. Nothing is assumed.
use native.Mathlib.Omega.{arith}
use Rattle.text.proofs.Pieces.{◌then◌}
use Rattle.text.proofs.Places.{where-none, where-some, put-none}
use Rattle.text.proofs.lines.put_where.Goals as goal

pub returns-then-column-eq-NONE : goal.returns-then-column-eq-NONE
returns-then-column-eq-NONE c =
    let a = c.args in
    record { puts = rw (← where-none a.column a.index c.if-column-eq-NONE.true) (put-none a.out.now a.at); upper_bound = omega arith }

pub returns : goal.returns
returns c =
    let a = c.args in
    let if1 = c.if-column-eq-NONE in
    let column = c.put_column-a.ensures in
    let index = c.put_number.ensures in
    record { puts = rw (← where-some a.column a.index if1.false) (column.puts then index.puts); upper_bound = omega (arith, column.upper_bound, index.upper_bound) }
