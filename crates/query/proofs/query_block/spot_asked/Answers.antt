-- `query::query_block::spot_asked` makes the two floats where both patterns are finite. Assumes nothing.
use mathlib.Core.Path.{sym, ◌∙◌}
use Rattle.answer.proofs.Both.{both_l, both_r}
use Rattle.extent.specs.Rank.{finite}
use Rattle.query.proofs.Blocks.{spot-made, spot-not}
use Rattle.query.proofs.query_block.spot_asked.Goals as goal

pub float_of-requires : goal.float_of-requires
float_of-requires c = let a = c.args in both_l (finite a.x) (finite a.y) ((sym c.both_finite.ensures ∙ c.if-both_finite.true))

pub float_of-requires-then-both_finite : goal.float_of-requires-then-both_finite
float_of-requires-then-both_finite c = let a = c.args in both_r (finite a.x) (finite a.y) ((sym c.both_finite.ensures ∙ c.if-both_finite.true))

pub returns-then-both_finite : goal.returns-then-both_finite
returns-then-both_finite c = spot-made _ _ _ _ ((sym c.both_finite.ensures ∙ c.if-both_finite.true)) c.float_of.ensures.0 c.float_of-then-both_finite.ensures.0

pub returns : goal.returns
returns c = c.nothing_asked.ensures ∙ sym (spot-not _ _ (sym c.both_finite.ensures ∙ c.if-both_finite.false))
