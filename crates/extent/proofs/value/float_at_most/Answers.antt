-- `extent::value::float_at_most` asks it of the patterns of the two floats. Assumes nothing.
use Rattle.std.proofs.Common.{◌∙◌, ap₂}
use Rattle.extent.specs.Rank.{at_most}
use Rattle.extent.proofs.value.float_at_most.Goals as goal

pub returns : goal.returns
returns c = c.at_most.ensures ∙ ap₂ at_most c.bits_of.ensures c.bits_of-2.ensures
