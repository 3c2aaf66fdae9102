-- `search::count::count` judges the query, and counts what it hits if it is good. Assumes nothing.
use mathlib.Core.Path.{sym, ◌∙◌}
use Rattle.answer.proofs.Outcomes.{handed-on}
use Rattle.search.proofs.Services.{query-sound, query-refused, count-refused}
use Rattle.search.proofs.count.count.Goals as goal

pub returns-in_err-judge : goal.returns-in_err-judge
returns-in_err-judge c =
    let a = c.args in
    handed-on c.from_residual.ensures.1 ∙ count-refused a.a a.s.now _ (query-refused a.a a.s.now _ (sym c.in_err-judge.was ∙ c.judge.ensures))

pub count_good-requires : goal.count_good-requires
count_good-requires c = query-sound _ (sym c.in_ok-judge.was ∙ c.judge.ensures)
