-- `shape::rules::finite_rule` gives the answer of rule 12: all are finite where the walk that makes their box finds one. Assumes nothing.
use mathlib.Core.Path.{ap, ◌∙◌}
use mathlib.Core.Bool.{Bool}
use Rattle.answer.specs.Table as table
use Rattle.answer.specs.Rule.{rule}
use Rattle.shape.proofs.Bounding.{finite-found}
use Rattle.shape.proofs.rules.finite_rule.Goals as goal

pub returns : goal.returns
returns c =
    c.rule.ensures
    ∙ ap (λ (t : Bool). rule t table.finite) c.is_some.ensures
    ∙ finite-found _ _ _ c.box_if_finite.ensures
