-- `end_rules` makes the tests of `as_end`, one after the other. Assumes nothing.
use mathlib.Core.Path.{◌∙◌}
use borrow.Author.Tests.{eqb-true, eqb-false}
use Rattle.answer.specs.Table.{lengths, counts}
use Rattle.answer.proofs.Rules.{passed-because, rule-passed}
use Rattle.frame.proofs.Ways.{end-length, end-pages, end-shapes, end_after, end-good}
use Rattle.frame.proofs.rules.end_rules.Goals as goal

pub returns-then-len-ne8 : goal.returns-then-len-ne8
returns-then-len-ne8 c = passed-because lengths _ c.because.ensures (end-length _ _ _ c.if-len-ne8.true)

pub returns-then-u32_at-pages : goal.returns-then-u32_at-pages
returns-then-u32_at-pages c = passed-because counts _ c.because-then-u32_at-pages.ensures (end-pages _ _ _ c.if-len-ne8.false _ c.u32_at.ensures.0 c.if-u32_at-pages.true)

pub returns-then-u32_at-shapes : goal.returns-then-u32_at-shapes
returns-then-u32_at-shapes c =
    let d = c in
    passed-because counts _ c.because-then-u32_at-shapes.ensures
    (end-shapes _ _ _ d.if-len-ne8.false _ d.u32_at.ensures.0 c.if-u32_at-pages.false _ c.u32_at-2.ensures.0 c.if-u32_at-shapes.true)

pub returns : goal.returns
returns c =
    let e = c in
    let d = e in
    c.rule.ensures
    ∙ rule-passed _ lengths _
    (λ t. (_, end-good _ _ _ d.if-len-ne8.false _ d.u32_at.ensures.0 e.if-u32_at-pages.false _ e.u32_at-2.ensures.0 c.if-u32_at-shapes.false (eqb-true _ _ t)))
    (λ f. end_after _ _ _ d.if-len-ne8.false _ d.u32_at.ensures.0 e.if-u32_at-pages.false _ e.u32_at-2.ensures.0 c.if-u32_at-shapes.false (eqb-false _ _ f))
