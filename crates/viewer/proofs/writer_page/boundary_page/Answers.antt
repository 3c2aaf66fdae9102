-- `viewer::writer_page::boundary_page` is the step of a page on the state of the words. Assumes nothing.
use Rattle.viewer.proofs.Keeping.{kept-refused, kept_step, page-short, page-step}
use Rattle.viewer.proofs.writer_page.boundary_page.Goals as goal

pub returns-then-writer-lt4 : goal.returns-then-writer-lt4
returns-then-writer-lt4 c = kept-refused _ _ _ _ _ (page-short _ _ c.if-writer-lt4.true _) c.number_word.ensures

pub returns : goal.returns
returns c =
    let if1 = c.if-writer-lt4 in
    let state-of = c.state_of-st in
    let page = c.page in
    kept_step _ _ _ _ _ _ _ _ _ (page-step _ _ if1.false _ _ state-of.ensures) page.ensures c.hand_back.ensures
