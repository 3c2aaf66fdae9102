-- `frame` walks on from the first block. Assumes nothing.
use mathlib.Core.Path.{◌∙◌}
use Rattle.answer.proofs.Outcomes.{handed-on}
use Rattle.frame.proofs.Walks.{frame_refused, frame-starts, frame-walk}
use Rattle.frame.proofs.walk.frame.Goals as goal

pub walk_from-requires : goal.walk_from-requires
walk_from-requires c = frame-starts c.args.s.now _ c.first.ensures _ c.in_ok-c.was

pub returns-in_err-c : goal.returns-in_err-c
returns-in_err-c c = handed-on c.from_residual.ensures.1 ∙ frame_refused _ _ c.first.ensures _ c.in_err-c.was

pub returns : goal.returns
returns c = frame-walk _ _ c.first.ensures _ c.in_ok-c.was _ c.walk_from.ensures
