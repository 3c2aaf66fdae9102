-- `types::parts::parts_rule` gives the verdict of rule 11. Assumes nothing.
use mathlib.Core.Path.{ap, ◌∙◌}
use mathlib.Core.Bool.{Bool}
use Rattle.answer.specs.Table.{parts}
use Rattle.answer.specs.Rule.{rule}
use Rattle.types.specs.Parts.{parts_rule}
use Rattle.types.proofs.parts.parts_rule.Goals as goal

pub returns : goal.returns
unfolding parts_rule
returns c = c.rule.ensures ∙ ap (λ (t : Bool). rule t parts) c.parts_hold.ensures
