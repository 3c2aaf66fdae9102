-- `extent::rank::float_of` meets its contract: a finite pattern is no NaN's, and the float's pattern is the pattern. Assumes nothing.
use Rattle.std.proofs.Common.{refl}
use Rattle.extent.proofs.Patterns.{no-nan-bits, bits_back}
use Rattle.extent.proofs.rank.float_of.Goals as goal

pub float_from_bits-result : goal.float_from_bits-result
float_from_bits-result c = no-nan-bits c.args.b c.requires

pub returns : goal.returns
returns c = (refl, bits_back c.args.b c.ranges.b.fits c.requires)
