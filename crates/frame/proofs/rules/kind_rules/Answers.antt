-- `kind_rules` goes by the kind. Assumes nothing.
use mathlib.Core.Path.{sym, ap, ◌∙◌}
use Rattle.answer.specs.Table.{kind}
use Rattle.answer.specs.Rule.{passed}
use Rattle.answer.proofs.Rules.{passed-because}
use Rattle.frame.proofs.Ways.{kind-page, kind-end, kind-other}
use Rattle.frame.proofs.rules.kind_rules.Goals as goal

pub returns-then-kind-eq-PAGE : goal.returns-then-kind-eq-PAGE
returns-then-kind-eq-PAGE c = c.page_block_rules.ensures ∙ ap passed (sym (kind-page _ _ _ c.if-kind-eq-PAGE.true))

pub returns-then-kind-eq-END : goal.returns-then-kind-eq-END
returns-then-kind-eq-END c = c.end_rules.ensures ∙ ap passed (sym (kind-end _ _ _ c.if-kind-eq-PAGE.false c.if-kind-eq-END.true))

pub returns : goal.returns
returns c = passed-because kind _ c.because.ensures (kind-other _ _ _ c.if-kind-eq-PAGE.false c.if-kind-eq-END.false)
