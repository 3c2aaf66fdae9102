-- `walk_from` counts what the walk comes to: the totals so far with those of what is left are those of the whole, and the pages that may
-- follow get fewer. Assumes nothing.
use Prim.Native.Nat.{◌-◌}
use Rattle.frame.proofs.Walks.{Walking}
use Rattle.frame.proofs.walk.walk_from.Given as goal

abbrev pub invariant-loop-l : goal.invariant-loop-l
invariant-loop-l l = Walking l.s l.from l.c

abbrev pub decreases-loop-l : goal.decreases-loop-l
decreases-loop-l l = 1025 - l.c.pages
