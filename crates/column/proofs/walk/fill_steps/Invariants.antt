-- `column::walk::fill_steps` gives values as long as steps follow each other. The invariant: the walk went from where it began to here, and the
-- steps that are left would end where all of them would have; so before that place one is left. Assumes nothing.
use mathlib.Core.Path.{◌≡◌}
use Prim.Native.Nat.{◌+◌, ◌-◌, ◌*◌, ◌≤◌}
use Rattle.le.specs.Number.{number}
use Rattle.column.specs.Position.{position}
use Rattle.column.specs.Filling.{Went}
use Rattle.column.proofs.walk.fill_steps.Given as goal

abbrev pub invariant-loop-at : goal.invariant-loop-at
invariant-loop-at l = (Went 64 (number l.s) l.n (position l.initial.at l.initial.i l.w l.initial.last) l.initial.out (position l.at l.i l.w l.last) l.out) × (l.initial.i ≤ l.i) × (l.at + l.w * (l.n - l.i) ≡ l.initial.at + l.w * (l.n - l.initial.i))

abbrev pub decreases-loop-at : goal.decreases-loop-at
decreases-loop-at l = l.n - l.i
