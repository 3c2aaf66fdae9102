-- `page::columns::columns` reads the x column and then the y column, each as its part of the body. Assumes nothing.
use mathlib.Core.Path.{refl}
use Rattle.answer.proofs.Outcomes.{handed-on}
use Rattle.page.proofs.Vertices.{x-part, y-part, columns-refused, columns-both}
use Rattle.page.proofs.columns.columns.Goals as goal

pub returns-in_err-column_into : goal.returns-in_err-column_into
returns-in_err-column_into c =
    let h = c.args.h in
    let b = c.args.b.now in
    rw (handed-on c.from_residual.ensures.1)
    (columns-refused h b _ _ _ _ (x-part h b _ _ refl refl) c.requires.xs_len.0 _ (rw c.in_err-column_into.was at c.column_into.ensures))

pub returns : goal.returns
returns c =
    let h = c.args.h in
    let b = c.args.b.now in
    columns-both h b _ _ _ _ (x-part h b _ _ refl refl) c.requires.xs_len.0 _ _ c.column_into-2.result (y-part h b _ _ refl refl) c.requires.xs_len.1
    (rw c.in_ok-column_into.was at c.column_into.ensures) c.column_into-2.ensures
