-- `viewer::writer_close::boundary_close` is the step of closing on the state of the words. Assumes nothing.
use Rattle.viewer.proofs.Keeping.{kept-refused, kept_step, close-short, close-step}
use Rattle.viewer.proofs.writer_close.boundary_close.Goals as goal

pub returns-then-writer-lt4 : goal.returns-then-writer-lt4
returns-then-writer-lt4 c = kept-refused _ _ _ _ _ (close-short _ _ c.if-writer-lt4.true) c.number_word.ensures

pub returns : goal.returns
returns c =
    let if1 = c.if-writer-lt4 in
    let state-of = c.state_of-st in
    let close = c.close in
    kept_step _ _ _ _ _ _ _ _ _ (close-step _ _ if1.false _ state-of.ensures) close.ensures c.hand_back.ensures
