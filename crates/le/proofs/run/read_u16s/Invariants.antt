-- `le::run::read_u16s` fills the room with the run's numbers. The invariant: the first i are there, and the rest stays. Assumes nothing.
use mathlib.Core.Path.{◌≡◌}
use mathlib.Core.List.{◌++◌}
use lib.ListN.{length, take, drop}
use Rattle.le.specs.Number.{numbers_at}
use Rattle.le.proofs.run.read_u16s.Given as goal

abbrev pub invariant-loop-i : goal.invariant-loop-i
invariant-loop-i l = l.d ≡ take l.i (numbers_at 2 (length l.initial.d) l.s l.at) ++ drop l.i l.initial.d
