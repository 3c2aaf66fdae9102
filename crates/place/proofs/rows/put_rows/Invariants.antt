-- `place::rows::put_rows` puts row after row: the first i stand in the rooms, and from the cursor of the last page one may seek on. Assumes nothing.
use Rattle.place.proofs.Places.{Listing}
use Rattle.place.proofs.rows.put_rows.Given as goal

abbrev pub invariant-loop-i : goal.invariant-loop-i
invariant-loop-i l = Listing l.s l.places l.initial.registers l.initial.types l.c l.i l.registers l.types
