-- `reader::end_at` judges the end: 9, 10, or the end. Assumes nothing.
use mathlib.Core.Path.{sym, ◌∙◌}
use native.Mathlib.Omega.{arith}
use Prim.Native.Nat.{◌≤◌}
use lib.ListN.{length}
use Rattle.answer.specs.Table as Table
use Rattle.answer.specs.Refusal.{because, at_value}
use Rattle.answer.specs.Outcome.{ok}
use Rattle.column.specs.Column.{whole}
use Rattle.column.proofs.Decoding.{ending-over, ending-fill, ending-good, fill-zero, fill-some}
use Rattle.step.specs.Step.{end}
use Rattle.step.proofs.Calls.{said-refused, said-end}
use Rattle.step.proofs.end_at.Goals as goal

pub returns-then-whole_bytes-s : goal.returns-then-whole_bytes-s
returns-then-whole_bytes-s c =
    let a = c.args in
    c.refused_at.ensures ∙ said-refused a.p (at_value a.n (because Table.bits)) (ending-over a.s.now a.n a.at (ok end) (omega (arith, c.if-whole_bytes-s.true, c.whole_bytes.ensures)))

pub returns-then-window-ne0 : goal.returns-then-window-ne0
returns-then-window-ne0 c =
    let a = c.args in
    let l : length a.s.now ≤ whole a.at = omega (arith, c.whole_bytes.ensures, c.if-whole_bytes-s.false) in
    c.refused_at-then-window-ne0.ensures ∙ said-refused a.p (at_value a.n (because Table.fill)) (ending-fill a.s.now a.n a.at (ok end) l
    (fill-some a.s.now a.at (λ i. (c.shared_slice_known-1.given i).fits) l (λ z. c.if-window-ne0.true (c.window.ensures ∙ z))))

pub returns : goal.returns
returns c =
    let a = c.args in
    let l : length a.s.now ≤ whole a.at = omega (arith, c.whole_bytes.ensures, c.if-whole_bytes-s.false) in
    said-end a.p (ending-good a.s.now a.n a.at (ok end) l
    (fill-zero a.s.now a.at (λ i. (c.shared_slice_known-1.given i).fits) l (sym c.window.ensures ∙ c.if-window-ne0.false)))
