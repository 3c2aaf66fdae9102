-- `page::columns::column_into` decodes a whole scratch, or hands the refusal on, marked with the column. Assumes nothing.
use mathlib.Core.Path.{sym, ap, ◌∙◌}
use Rattle.answer.specs.Outcome.{refused}
use Rattle.answer.specs.Refusal.{on_column}
use Rattle.answer.proofs.Outcomes.{handed-on, marked-ok, marked-failed}
use Rattle.page.proofs.Givens.{given-values, given-refused}
use Rattle.page.proofs.columns.column_into.Goals as goal

pub returns-in_err-in_column : goal.returns-in_err-in_column
returns-in_err-in_column c =
    let a = c.args in
    let f = on_column a.column in
    let m = marked-failed f _ _ (sym c.in_column.ensures ∙ c.in_err-in_column.was) in
    rw (handed-on c.from_residual.ensures.1 ∙ ap refused m.2) (given-refused 64 a.s.now a.out.now _ f m.0 (rw m.1 at c.decode.ensures))

pub returns : goal.returns
returns c =
    let a = c.args in
    let f = on_column a.column in
    given-values 64 a.s.now a.out.now _ f _ (rw (marked-ok f _ _ (sym c.in_column.ensures ∙ c.in_ok-in_column.was)) at c.decode.ensures)
