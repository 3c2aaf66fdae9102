-- `column::walk::fill_last` gives values as long as steps follow each other in the last eight bytes. The invariant: the walk went from where it
-- began to here, and the place lies in those bytes or behind them. Nothing is assumed.
use Prim.Native.Nat.{◌+◌, ◌-◌, ◌/◌, ◌≤◌}
use Rattle.le.specs.Number.{number}
use Rattle.column.specs.Position.{position}
use Rattle.column.specs.Filling.{Went}
use Rattle.column.proofs.walk.fill_last.Given as goal

abbrev pub invariant-loop-i : goal.invariant-loop-i
invariant-loop-i l = (Went 64 (number l.s) l.n (position l.initial.at l.initial.i l.w l.initial.last) l.initial.out (position l.at l.i l.w l.last) l.out) × (l.len ≤ l.at / 8 + 8)

abbrev pub decreases-loop-i : goal.decreases-loop-i
decreases-loop-i l = l.n - l.i
