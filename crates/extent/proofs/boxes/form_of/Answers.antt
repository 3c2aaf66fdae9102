-- `extent::boxes::form_of` makes the box where the patterns are of good form. Assumes nothing.
use Rattle.std.proofs.Common.{sym, ◌∙◌}
use Rattle.extent.proofs.Forms.{good-finite, form-made, form-not-good}
use Rattle.extent.proofs.boxes.form_of.Goals as goal

pub box_with-requires : goal.box_with-requires
box_with-requires c = good-finite _ (sym c.good_patterns.ensures ∙ c.if-good_patterns.true)

pub returns-then-good_patterns : goal.returns-then-good_patterns
returns-then-good_patterns c = form-made _ _ (sym c.good_patterns.ensures ∙ c.if-good_patterns.true) c.box_with.ensures.0

pub returns : goal.returns
returns c = form-not-good _ (sym c.good_patterns.ensures ∙ c.if-good_patterns.false)
