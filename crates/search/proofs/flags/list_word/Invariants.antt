-- `search::flags::list_word` puts bit after bit: those of what is left of the word are still to be put. Assumes nothing.
use Rattle.search.proofs.Listing.{Wording}
use Rattle.search.proofs.flags.list_word.Given as goal

abbrev pub invariant-loop-y : goal.invariant-loop-y
invariant-loop-y l = Wording l.x l.n l.initial.out l.at l.y l.place l.out l.k

abbrev pub decreases-loop-y : goal.decreases-loop-y
decreases-loop-y l = l.y
