-- `shape::rules::ring_rule` gives the verdict of rule 13. Assumes nothing.
use mathlib.Core.Path.{ap, ◌∙◌}
use mathlib.Core.Bool.{Bool}
use Rattle.answer.specs.Table as table
use Rattle.answer.specs.Rule.{rule}
use Rattle.shape.specs.Rules.{ring_rule}
use Rattle.shape.proofs.Whiches.{all-always}
use Rattle.shape.proofs.rules.ring_rule.Goals as goal

pub shapes_hold-requires : goal.shapes_hold-requires
shapes_hold-requires c = all-always _

pub returns : goal.returns
unfolding ring_rule
returns c = c.rule.ensures ∙ ap (λ (t : Bool). rule t table.ring) c.shapes_hold.ensures
