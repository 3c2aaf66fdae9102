-- `viewer::writer_open::boundary_open` is the step of opening on the state of the words. Assumes nothing.
use Rattle.viewer.proofs.Keeping.{kept-refused, kept_step, open-short, open_step}
use Rattle.viewer.proofs.writer_open.boundary_open.Goals as goal

pub returns-then-writer-lt4 : goal.returns-then-writer-lt4
returns-then-writer-lt4 c = kept-refused _ _ _ _ _ (open-short _ _ c.if-writer-lt4.true) c.number_word.ensures

pub returns : goal.returns
returns c =
    let if1 = c.if-writer-lt4 in
    let before = c in
    kept_step _ _ _ _ _ _ _ _ _ (open_step _ _ if1.false) before.«open».ensures c.hand_back.ensures
