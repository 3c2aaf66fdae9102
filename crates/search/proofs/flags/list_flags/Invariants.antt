-- `search::flags::list_flags` puts word after word: those of the words to come are still to be put, and there are words while a place is left.
-- Assumes nothing.
use Prim.Native.Nat.{◌-◌}
use Rattle.le.specs.Number.{number}
use Rattle.search.proofs.Listing.{Flagging}
use Rattle.search.proofs.flags.list_flags.Given as goal

abbrev pub invariant-loop-k : goal.invariant-loop-k
invariant-loop-k l = Flagging (number l.flags) l.initial.out l.out l.k l.place

abbrev pub decreases-loop-k : goal.decreases-loop-k
decreases-loop-k l = 262144 - l.place
