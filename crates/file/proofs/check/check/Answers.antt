-- `file::check::check` is the full check: the frame, then the contents. A law for each return. Assumes nothing.
use mathlib.Core.Path.{sym, ◌∙◌}
use Rattle.answer.proofs.Outcomes.{handed-on}
use Rattle.frame.proofs.Walks.{sound-said, frame-refusal-said}
use Rattle.frame.proofs.Ahead.{begun-said}
use Rattle.file.proofs.Checks.{check-frame, check-contents, check_sound}
use Rattle.file.proofs.check.check.Goals as goal

pub returns-in_err-totals : goal.returns-in_err-totals
returns-in_err-totals c =
    handed-on c.from_residual.ensures.1 ∙ check-frame _ _ (frame-refusal-said _ _ c.frame.ensures _ c.in_err-totals.was)

pub contents_hold-requires : goal.contents_hold-requires
contents_hold-requires c = begun-said _ _ c.frame.ensures _ c.in_ok-totals.was

pub returns-in_err-contents_hold : goal.returns-in_err-contents_hold
returns-in_err-contents_hold c =
    let f = sound-said _ _ c.frame.ensures _ c.in_ok-totals.was in
    handed-on c.from_residual-in_err-contents_hold.ensures.1
    ∙ check-contents _ f.0 _ f.1 f.2 _ (sym c.in_err-contents_hold.was ∙ c.contents_hold.ensures)

pub returns : goal.returns
returns c =
    let f = sound-said _ _ c.frame.ensures _ c.in_ok-totals.was in
    check_sound _ f.0 _ f.1 f.2 (sym c.in_ok-contents_hold.was ∙ c.contents_hold.ensures)
