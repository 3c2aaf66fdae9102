-- `search::search::search` judges the query, and lists what it hits if it is good. Assumes nothing.
use mathlib.Core.Path.{sym, ◌∙◌}
use Rattle.answer.proofs.Outcomes.{fills-refused, handed-on}
use Rattle.search.proofs.Services.{query-sound, query-refused, search-refused}
use Rattle.search.proofs.search.search.Goals as goal

pub returns-in_err-judge : goal.returns-in_err-judge
returns-in_err-judge c =
    let a = c.args in
    rw (handed-on c.from_residual.ensures.1)
    (fills-refused _ (search-refused a.a a.s.now _ _ (query-refused a.a a.s.now _ (sym c.in_err-judge.was ∙ c.judge.ensures))))

pub search_good-requires : goal.search_good-requires
search_good-requires c = query-sound _ (sym c.in_ok-judge.was ∙ c.judge.ensures)
