-- `shape::rules::turn_rule` gives the verdict of rule 15. Assumes nothing.
use mathlib.Core.Path.{ap, ◌∙◌}
use mathlib.Core.Bool.{Bool}
use Rattle.answer.specs.Table as table
use Rattle.answer.specs.Rule.{rule}
use Rattle.shape.specs.Rules.{turn_rule}
use Rattle.shape.proofs.Whiches.{all-turnable}
use Rattle.shape.proofs.rules.turn_rule.Goals as goal

pub shapes_hold-requires : goal.shapes_hold-requires
shapes_hold-requires c = all-turnable _ _ _ _ _ c.args.lists.parted.few c.requires

pub returns : goal.returns
unfolding turn_rule
returns c = c.rule.ensures ∙ ap (λ (t : Bool). rule t table.turn) c.shapes_hold.ensures
