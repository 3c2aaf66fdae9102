-- `pageblock::rules::page_rules` gives the answer of the rules in order: a law for each return. Assumes nothing.
use mathlib.Core.Path.{sym, ◌∙◌}
use Rattle.answer.proofs.Outcomes.{handed-on}
use Rattle.types.proofs.Passed.{parts-passed}
use Rattle.pageblock.proofs.Passing.{holds-even, even-limits, rules-counts, rules-parts, rules-outlines}
use Rattle.pageblock.proofs.rules.page_rules.Goals as goal

pub returns-then-not-counts_hold : goal.returns-then-not-counts_hold
returns-then-not-counts_hold c = rw c.because.ensures (rules-counts _ (sym c.counts_hold.ensures ∙ c.if-not-counts_hold.true))

pub returns-in_err-parts_rule : goal.returns-in_err-parts_rule
returns-in_err-parts_rule c =
    handed-on c.from_residual.ensures.1
    ∙ rules-parts _ (sym c.counts_hold.ensures ∙ c.if-not-counts_hold.false) _ (sym c.in_err-parts_rule.was ∙ c.parts_rule.ensures)

pub invariant_of-parted : goal.invariant_of-parted
invariant_of-parted c =
    let e = holds-even _ (sym c.counts_hold.ensures ∙ c.if-not-counts_hold.false) in
    record {
      parted = record {
        parts = parts-passed _ _ _ _ _ (sym c.parts_rule.ensures ∙ c.in_ok-parts_rule.was);
        same = e.vertices_even;
        few = (even-limits _ e).vertices;
      };
    }

pub returns : goal.returns
returns c =
    c.outline_rules.ensures
    ∙ rules-outlines _ (sym c.counts_hold.ensures ∙ c.if-not-counts_hold.false) (sym c.in_ok-parts_rule.was ∙ c.parts_rule.ensures)
