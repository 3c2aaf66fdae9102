-- `first_step` says what `as_first` does, by each of its ways. Assumes nothing.
use mathlib.Core.Path.{sym, ◌∙◌}
use Rattle.frame.proofs.Ways.{first_kind, first-length, first-edition, first_good}
use Rattle.frame.proofs.walk.first_step.Goals as goal

pub returns-then-kind-ne-FIRST : goal.returns-then-kind-ne-FIRST
returns-then-kind-ne-FIRST c = c.refused.ensures ∙ sym (first_kind _ _ c.if-kind-ne-FIRST.true)

pub returns-then-len-ne2 : goal.returns-then-len-ne2
returns-then-len-ne2 c = c.refused-then-len-ne2.ensures ∙ sym (first-length _ _ c.if-kind-ne-FIRST.false c.if-len-ne2.true)

pub returns-then-edition-ne-EDITION : goal.returns-then-edition-ne-EDITION
returns-then-edition-ne-EDITION c =
    c.refused-then-edition-ne-EDITION.ensures
    ∙ sym (first-edition _ _ c.if-kind-ne-FIRST.false c.if-len-ne2.false _ (sym c.u16_at-edition.ensures.0) c.if-edition-ne-EDITION.true)

pub returns : goal.returns
returns c = sym (first_good _ _ c.if-kind-ne-FIRST.false c.if-len-ne2.false _ (sym c.u16_at-edition.ensures.0) c.if-edition-ne-EDITION.false)
