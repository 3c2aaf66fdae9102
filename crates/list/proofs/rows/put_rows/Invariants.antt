-- `list::rows::put_rows` puts row after row, each where the one before it ends. Nothing is assumed.
use Rattle.list.proofs.Rowing.{Rowing}
use Rattle.list.proofs.rows.put_rows.Given as goal

abbrev pub invariant-loop-i : goal.invariant-loop-i
invariant-loop-i l = Rowing l.initial.out l.places l.registers l.types l.out l.at l.i
