-- `column::walk::fill_on` gives values as long as an entry is sure to lie inside the bytes: one of either kind, and then the steps that follow
-- it, if they are asked for. The invariant: the walk went from where it began to here. Assumes nothing.
use Prim.Native.Nat.{◌-◌}
use Rattle.le.specs.Number.{number}
use Rattle.column.specs.Position.{position}
use Rattle.column.specs.Filling.{Went}
use Rattle.column.proofs.walk.fill_on.Given as goal

abbrev pub invariant-loop-i : goal.invariant-loop-i
invariant-loop-i g l = Went 64 (number l.s) l.n (position l.initial.at l.initial.i l.w l.initial.last) l.initial.out (position l.at l.i l.w l.last) l.out

abbrev pub decreases-loop-i : goal.decreases-loop-i
decreases-loop-i g l = l.n - l.i
