-- `step::step` gives the call's answer: 3, the first value's, or a later one's. Assumes nothing.
use mathlib.Core.Path.{sym, ap, ◌∙◌}
use Rattle.answer.specs.Table as Table
use Rattle.answer.specs.Refusal.{because}
use Rattle.step.specs.Step.{answer_with}
use Rattle.step.proofs.Calls.{said-refused, next-many, next-first, next-later}
use Rattle.step.proofs.step.Goals as goal

pub returns-then-n-gt-MOST_VERTICES : goal.returns-then-n-gt-MOST_VERTICES
returns-then-n-gt-MOST_VERTICES c =
    let a = c.args in
    c.refused.ensures ∙ said-refused a.p (because Table.many) (next-many 64 a.s.now a.n a.p c.if-n-gt-MOST_VERTICES.true)

pub returns-then-given-eq0 : goal.returns-then-given-eq0
returns-then-given-eq0 c =
    let a = c.args in
    c.first.ensures ∙ sym (ap (answer_with a.p) (next-first 64 a.s.now a.n a.p c.if-n-gt-MOST_VERTICES.false c.if-given-eq0.true))

pub returns-else-given-eq0 : goal.returns-else-given-eq0
returns-else-given-eq0 c =
    let a = c.args in
    c.later.ensures ∙ sym (ap (answer_with a.p) (next-later 64 a.s.now a.n a.p c.if-n-gt-MOST_VERTICES.false c.if-given-eq0.false))
