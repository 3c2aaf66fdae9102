-- `file::check::pages_hold` opens page after page: what is left decides as the whole does. Assumes nothing.
use mathlib.Core.Path.{refl, sym, ◌∙◌}
use borrow.Author.Tests.{not-true, not-false}
use Rattle.answer.proofs.Outcomes.{handed-on}
use Rattle.frame.proofs.Ahead.{ahead-next, ahead-stop, ahead-go}
use Rattle.page.proofs.Opening.{opened-refused}
use Rattle.file.proofs.Rests.{going_end, going-refused, going_on, going-fewer}
use Rattle.file.proofs.check.pages_hold.Goals as goal

pub loop-c-init : goal.loop-c-init
loop-c-init c = record { ahead = c.requires; same = refl }

pub at_end-requires : goal.at_end-requires
at_end-requires c = ahead-next _ _ _ c.loop-c.invariant.ahead.1

pub open_in-requires : goal.open_in-requires
open_in-requires c =
    let g = c.loop-c.invariant.ahead.1 in
    record { within = g.within; c_value = ahead-go _ _ _ g (sym c.at_end.ensures ∙ not-true _ c.loop-c-test.true-raw) }

pub loop-c-smaller : goal.loop-c-smaller
loop-c-smaller c =
    let o = c.open_in.ensures.lists c.in_ok-p.p c.in_ok-p.was in
    going-fewer _ _ _ c.loop-c.invariant _ o.0

pub loop-c-preserved : goal.loop-c-preserved
loop-c-preserved c =
    let o = c.open_in.ensures.lists c.in_ok-p.p c.in_ok-p.was in
    going_on _ _ _ c.loop-c.invariant _ o.0 _ o.1.shapes

pub returns-in_err-p : goal.returns-in_err-p
returns-in_err-p c =
    let g = c.loop-c.invariant in
    let p = ahead-go _ _ _ g.ahead.1 (sym c.at_end.ensures ∙ not-true _ c.loop-c-test.true-raw) in
    handed-on c.from_residual.ensures.1
    ∙ going-refused _ _ _ g p.0 p.1 _ (opened-refused _ _ _ _ c.open_in.ensures p.0 p.1 _ c.in_err-p.was)

pub returns : goal.returns
returns c =
    let g = c.loop-c.invariant in
    going_end _ _ _ g (ahead-stop _ _ _ g.ahead.1 (sym c.at_end.ensures ∙ not-false _ c.loop-c-test.false-raw))
