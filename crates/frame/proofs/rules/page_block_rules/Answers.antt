-- `page_block_rules` judges the head in the part of the file that is the body, after the test for a 1,025th page. Assumes nothing.
use mathlib.Core.Path.{◌∙◌, ap, sym}
use native.Mathlib.Omega.{arith}
use Rattle.answer.specs.Table.{many}
use Rattle.answer.specs.Rule.{passed}
use Rattle.answer.proofs.Rules.{passed-because}
use Rattle.frame.proofs.Ways.{page-many, page-passed, part-head}
use Rattle.frame.proofs.rules.page_block_rules.Goals as goal

pub returns-then-pages-ge-MOST_PAGES : goal.returns-then-pages-ge-MOST_PAGES
returns-then-pages-ge-MOST_PAGES c = passed-because many _ c.because.ensures (page-many _ c.args.c _ (omega arith))

pub returns : goal.returns
returns c =
    let a = c.args in
    c.head_rules.ensures
    ∙ ap passed (part-head a.c.edition a.s.now a.b.body a.b.len)
    ∙ sym (page-passed a.s.now a.c a.b (omega arith))
