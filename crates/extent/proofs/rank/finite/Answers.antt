-- `extent::rank::finite` tests the exponent's field, as the definition does. Assumes nothing.
use Rattle.std.proofs.Common.{rules}
use Rattle.extent.specs.Rank.{finite}
use Rattle.extent.proofs.rank.finite.Goals as goal

pub returns : goal.returns
unfolding finite
returns c = search rules
