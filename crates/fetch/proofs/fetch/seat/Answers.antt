-- `fetch::fetch::seat` judges the frame, and seeks the place from the cursor that it hands back. Assumes nothing.
use native.Mathlib.Omega.{arith}
use Rattle.answer.proofs.Outcomes.{handed-on}
use Rattle.frame.proofs.Walks.{frame-refusal-said}
use Rattle.frame.proofs.Ahead.{begun-said}
use Rattle.place.proofs.Onwards.{seat-refused, seeks-refused, onward-first}
use Rattle.fetch.proofs.fetch.seat.Goals as goal

pub returns-in_err-totals : goal.returns-in_err-totals
returns-in_err-totals c =
    rw (handed-on c.from_residual.ensures.1) (seeks-refused _ _ _ (seat-refused _ _ _ (frame-refusal-said _ _ c.frame.ensures _ c.in_err-totals.was)))

pub seek-requires : goal.seek-requires
seek-requires c =
    let b = begun-said _ _ c.frame.ensures _ c.in_ok-totals.was in
    (onward-first _ _ b, omega (arith, b.no_shape))
