-- `place::seek::seek` goes from page to page until the place lies in one: from each cursor it may be sought as well as from the first page, and the
-- pages that may follow get fewer. Assumes nothing.
use Prim.Native.Nat.{◌-◌, ◌≤◌}
use Rattle.place.specs.Onward.{Onward}
use Rattle.place.proofs.seek.seek.Given as goal

abbrev pub invariant-loop-c : goal.invariant-loop-c
invariant-loop-c l = Onward l.s l.c × (l.c.shapes ≤ l.place)

abbrev pub decreases-loop-c : goal.decreases-loop-c
decreases-loop-c l = 1025 - l.c.pages
