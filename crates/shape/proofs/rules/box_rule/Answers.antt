-- `shape::rules::box_rule` gives the verdict of rule 16. Assumes nothing.
use mathlib.Core.Path.{ap, ◌∙◌}
use mathlib.Core.Bool.{Bool}
use Rattle.answer.specs.Table as table
use Rattle.answer.specs.Rule.{rule}
use Rattle.shape.proofs.rules.box_rule.Goals as goal

pub returns : goal.returns
returns c = c.rule.ensures ∙ ap (λ (t : Bool). rule t table.box) c.box_holds.ensures
