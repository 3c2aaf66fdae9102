-- `shape::ordered::ring_rules` gives the answer of rules 13 to 15, in order: a law for each return. Assumes nothing.
use mathlib.Core.Path.{sym, ◌∙◌}
use Rattle.answer.proofs.Outcomes.{handed-on}
use Rattle.shape.specs.Outline.{outlines_in}
use Rattle.shape.proofs.Ruled.{grid-held, ruled-ring, ruled-grid, ruled-turn}
use Rattle.shape.proofs.ordered.ring_rules.Goals as goal

pub returns-in_err-ring_rule : goal.returns-in_err-ring_rule
returns-in_err-ring_rule c = handed-on c.from_residual.ensures.1 ∙ ruled-ring _ _ (sym c.in_err-ring_rule.was ∙ c.ring_rule.ensures)

pub returns-in_err-grid_rule : goal.returns-in_err-grid_rule
returns-in_err-grid_rule c =
    handed-on c.from_residual-in_err-grid_rule.ensures.1
    ∙ ruled-grid _ (sym c.in_ok-ring_rule.was ∙ c.ring_rule.ensures) _ (sym c.in_err-grid_rule.was ∙ c.grid_rule.ensures)

pub turn_rule-requires : goal.turn_rule-requires
turn_rule-requires c = grid-held (outlines_in c.args.lists) (sym c.in_ok-grid_rule.was ∙ c.grid_rule.ensures)

pub returns : goal.returns
returns c =
    ruled-turn _ (sym c.in_ok-ring_rule.was ∙ c.ring_rule.ensures) c.turn_rule.result
    (sym c.in_ok-grid_rule.was ∙ c.grid_rule.ensures) c.turn_rule.ensures
