-- `extent::rank::bits_of` meets its contract: a finite float is no NaN. Assumes nothing.
use Rattle.extent.proofs.Patterns.{no_nan}
use Rattle.extent.proofs.rank.bits_of.Goals as goal

pub float_to_bits-result : goal.float_to_bits-result
float_to_bits-result c = no_nan c.args.x c.requires
