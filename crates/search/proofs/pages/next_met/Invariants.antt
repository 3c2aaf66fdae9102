-- `search::pages::next_met` passes by the pages that the query does not meet: what is to come has the same hits, and the pages that may follow get
-- fewer. Assumes nothing.
use Prim.Native.Nat.{◌-◌}
use Rattle.search.specs.Skipped.{Skipping}
use Rattle.search.proofs.pages.next_met.Given as goal

abbrev pub invariant-loop-a : goal.invariant-loop-a
invariant-loop-a l = Skipping l.a l.s l.initial.c l.c

abbrev pub decreases-loop-a : goal.decreases-loop-a
decreases-loop-a l = 1025 - l.c.pages
