-- `column::walk::fill_rest` gives the rest of the values. The invariant: the walk went from where it began to here. Assumes nothing.
use Rattle.le.specs.Number.{number}
use Rattle.column.specs.Position.{position}
use Rattle.column.specs.Filling.{Went}
use Rattle.column.proofs.walk.fill_rest.Given as goal

abbrev pub invariant-loop-i : goal.invariant-loop-i
invariant-loop-i l = Went 64 (number l.s) l.n (position l.initial.at l.initial.i l.w l.initial.last) l.initial.out (position l.at l.i l.w l.last) l.out
