-- `block_rules` goes by the kind where the block is present, with the cursor's number of pages in every refusal. Assumes nothing.
use mathlib.Core.Path.{refl, sym, ap, ◌∙◌}
use Rattle.answer.specs.Refusal.{on_page}
use Rattle.answer.specs.Outcome.{in_page}
use Rattle.answer.specs.Table.{lengths}
use Rattle.answer.specs.Rule.{passed}
use Rattle.answer.proofs.Rules.{passed-because, passed-marked}
use Rattle.block.proofs.Blocks.{block-fits}
use Rattle.frame.proofs.Ways.{step-absent, step-found}
use Rattle.frame.proofs.rules.block_rules.Goals as goal

pub block_in-requires : goal.block_in-requires
block_in-requires c = sym c.present.ensures ∙ c.if-present.true

pub kind_rules-requires : goal.kind_rules-requires
kind_rules-requires c = block-fits _ _ _ c.block_in.ensures

pub returns-then-present : goal.returns-then-present
returns-then-present c =
    let k = c.args.c.pages in
    c.in_page.ensures
    ∙ ap (in_page k) c.kind_rules.ensures
    ∙ sym (passed-marked (on_page k) _)
    ∙ ap passed (sym (step-found _ _ _ c.block_in.ensures))

pub returns : goal.returns
returns c =
    let k = c.args.c.pages in
    c.in_page-2.ensures
    ∙ ap (in_page k) (passed-because lengths _ c.because.ensures refl)
    ∙ sym (passed-marked (on_page k) _)
    ∙ ap passed (sym (step-absent _ _ (sym c.present.ensures ∙ c.if-present.false)))
