-- `query::ask::judge` gives the verdict of the test. Assumes nothing.
use mathlib.Core.Path.{ap, ◌∙◌}
use mathlib.Core.Bool.{Bool}
use Rattle.answer.specs.Table.{query}
use Rattle.answer.specs.Rule.{rule}
use Rattle.query.proofs.ask.judge.Goals as goal

pub returns : goal.returns
returns c = c.rule.ensures ∙ ap (λ (t : Bool). rule t query) c.good_query.ensures
