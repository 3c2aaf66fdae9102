-- `extent::value::at_most` compares the keys, which stand in the order of the values. Assumes nothing.
use Rattle.std.proofs.Common.{leb, sym, ◌∙◌, ap₂}
use Rattle.extent.proofs.Keys.{at-most-key}
use Rattle.extent.proofs.value.at_most.Goals as goal

pub returns : goal.returns
returns c = ap₂ leb c.key.ensures c.key-2.ensures ∙ sym (at-most-key _ _)
