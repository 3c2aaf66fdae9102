-- `head_rules` makes the tests of `head_of`, one after the other. Assumes nothing.
use mathlib.Core.Path.{sym, ap, ◌∙◌}
use native.Mathlib.Omega.{arith}
use Rattle.answer.specs.Table.{lengths, counts}
use Rattle.answer.specs.Rule.{passed}
use Rattle.answer.proofs.Rules.{passed-because}
use Rattle.frame.proofs.Counts.{counts-limits}
use Rattle.frame.proofs.Heads.{head-short, head-counts, head-sized}
use Rattle.frame.proofs.head.head_rules.Goals as goal

pub returns-then-b-lt-FIRST : goal.returns-then-b-lt-FIRST
returns-then-b-lt-FIRST c = passed-because lengths _ c.because.ensures (head-short _ _ c.if-b-lt-FIRST.true)

pub returns-then-not-counts_ok : goal.returns-then-not-counts_ok
returns-then-not-counts_ok c =
    let d = c in
    passed-because counts _ c.because-then-not-counts_ok.ensures
    (head-counts _ _ _ _ _ d.u16_at-g.ensures.0 d.u16_at-v.ensures.0 d.u16_at-p.ensures.0 d.if-b-lt-FIRST.false
    (sym c.counts_ok.ensures ∙ c.if-not-counts_ok.true))

pub sized_rules-requires : goal.sized_rules-requires
sized_rules-requires c =
    let l = counts-limits _ _ _ (sym c.counts_ok.ensures ∙ c.if-not-counts_ok.false) in
    (c.if-b-lt-FIRST.false, l.few, omega (arith, l.parts, l.vertices))

pub returns : goal.returns
returns c =
    let d = c in
    c.sized_rules.ensures
    ∙ ap passed (sym (head-sized _ _ _ _ _ d.u16_at-g.ensures.0 d.u16_at-v.ensures.0 d.u16_at-p.ensures.0 d.if-b-lt-FIRST.false
    (sym c.counts_ok.ensures ∙ c.if-not-counts_ok.false)))
