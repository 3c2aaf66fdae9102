-- `extent::value::float_same` compares the keys of the patterns of the two floats. Assumes nothing.
use Rattle.std.proofs.Common.{eqb, sym, ap, ◌∙◌, ap₂}
use Rattle.extent.specs.Rank.{key}
use Rattle.extent.proofs.Keys.{same_key}
use Rattle.extent.proofs.value.float_same.Goals as goal

pub returns : goal.returns
returns c =
    ap₂ eqb (c.key.ensures ∙ ap key c.bits_of.ensures) (c.key-2.ensures ∙ ap key c.bits_of-2.ensures)
    ∙ sym (same_key _ _)
