-- `search::found::hits_of` judges the frame, and walks the pages from the cursor that it hands back. Assumes nothing.
use Rattle.answer.proofs.Outcomes.{handed-on}
use Rattle.frame.proofs.Walks.{frame-refusal-said}
use Rattle.frame.proofs.Ahead.{begun-said}
use Rattle.search.proofs.Services.{sound-met, frame_refused}
use Rattle.search.proofs.found.hits_of.Goals as goal

pub own_hits-requires : goal.own_hits-requires
own_hits-requires c = (c.requires, begun-said _ _ c.frame.ensures _ c.in_ok-totals.was)

pub returns-in_err-totals : goal.returns-in_err-totals
returns-in_err-totals c =
    let a = c.args in
    rw (handed-on c.from_residual.ensures.1)
    (frame_refused a.a a.s.now c.requires _ (frame-refusal-said a.s.now _ c.frame.ensures _ c.in_err-totals.was))

pub returns : goal.returns
returns c = rw (sound-met c.args.a c.args.s.now c.requires) c.own_hits.ensures
