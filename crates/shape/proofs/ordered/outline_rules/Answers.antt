-- `shape::ordered::outline_rules` gives the answer of rule 12, and then of 13 to 15. Assumes nothing.
use mathlib.Core.Path.{sym, ◌∙◌}
use Rattle.answer.proofs.Outcomes.{handed-on}
use Rattle.shape.proofs.Ruled.{ruled-finite, ruled-rings}
use Rattle.shape.proofs.ordered.outline_rules.Goals as goal

pub returns-in_err-finite_rule : goal.returns-in_err-finite_rule
returns-in_err-finite_rule c =
    handed-on c.from_residual.ensures.1 ∙ ruled-finite _ _ _ _ (sym c.in_err-finite_rule.was ∙ c.finite_rule.ensures)

pub returns : goal.returns
returns c = c.ring_rules.ensures ∙ sym (ruled-rings _ _ _ (sym c.in_ok-finite_rule.was ∙ c.finite_rule.ensures))
