-- `search::pages::walk_hits` goes from each page that the query meets to the next: what was found with what is still to come is the whole, and the
-- pages that may follow get fewer. Assumes nothing.
use mathlib.Core.Path.{◌≡◌}
use mathlib.Core.Bool.{true}
use Prim.Native.Nat.{◌-◌}
use Rattle.answer.specs.Outcome.{ok}
use Rattle.extent.specs.Boxes.{patterns}
use Rattle.query.specs.Ask.{opens}
use Rattle.frame.specs.declared.cursor.PageAt.{PageAt}
use Rattle.frame.specs.Next.{page, next_of}
use Rattle.search.proofs.Meeting.{Meeting}
use Rattle.search.proofs.pages.walk_hits.Given as goal

abbrev pub invariant-loop-a : goal.invariant-loop-a
invariant-loop-a l =
    Meeting l.a l.s l.initial.flags l.c l.found l.flags
    × ((p : PageAt) → next_of l.s l.c ≡ ok (page p) → opens l.a p.head.v (patterns p.head.stored) ≡ true)

abbrev pub decreases-loop-a : goal.decreases-loop-a
decreases-loop-a l = 1025 - l.c.pages
