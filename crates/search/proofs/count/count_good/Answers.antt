-- `search::count::count_good` is the number of the hits, with no flags. Assumes nothing.
use Rattle.search.proofs.Services.{count-said}
use Rattle.search.proofs.count.count_good.Goals as goal

pub returns : goal.returns
returns c = count-said _ _ _ c.hits_of.ensures.said
