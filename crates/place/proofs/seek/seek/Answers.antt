-- `place::seek::seek` goes from page to page until the place lies in one: from each cursor it may be sought as well as from the first page, and the
-- pages that may follow get fewer. Assumes nothing.
use mathlib.Core.Path.{sym, ap, ◌∙◌}
use Rattle.answer.proofs.Outcomes.{ok-inj}
use Rattle.frame.specs.declared.cursor.Glance.{Glance}
use Rattle.frame.specs.declared.cursor.PageAt.{PageAt}
use Rattle.frame.proofs.Ways.{page-inj}
use Rattle.frame.proofs.Ahead.{ahead-next, ahead-stop, ahead-go}
use Rattle.place.proofs.Onwards.{onward-end, onward-fewer, onward-here, onward-more}
use Rattle.place.proofs.seek.seek.Goals as goal

pub at_end-requires : goal.at_end-requires
at_end-requires c = ahead-next _ _ _ c.loop-c.invariant.0.ahead

pub glance-l-requires : goal.glance-l-requires
glance-l-requires c =
    let a = c.loop-c.invariant.0.ahead in
    (a.within.shapes, ahead-go _ _ _ a (sym c.at_end.ensures ∙ c.loop-c-test.true))

pub returns-then-place-l : goal.returns-then-place-l
returns-then-place-l c =
    let i = c.loop-c.invariant in
    let g = c.glance-l.ensures in
    let e = c.page_at.ensures in
    let same = page-inj (ok-inj (sym g.1 ∙ e)) in
    onward-here _ _ _ i.0 i.1 _ e (rw (← ap (λ (x : PageAt). x.next.shapes) same, ← ap (λ (x : Glance). x.next.shapes) g.2) c.if-place-l.true)

pub loop-c-smaller : goal.loop-c-smaller
loop-c-smaller c =
    let i = c.loop-c.invariant in
    let g = c.glance-l.ensures in
    rw (ap (λ (x : Glance). x.next) g.2) (onward-fewer _ _ _ i.0 i.1 g.0 g.1)

pub loop-c-preserved : goal.loop-c-preserved
loop-c-preserved c =
    let i = c.loop-c.invariant in
    let g = c.glance-l.ensures in
    (rw (ap (λ (x : Glance). x.next) g.2) (onward-more _ _ _ i.0 i.1 g.0 g.1), c.if-place-l.false)

pub returns : goal.returns
returns c =
    let i = c.loop-c.invariant in
    rw c.because.ensures (onward-end _ _ _ i.0 i.1 (ahead-stop _ _ _ i.0.ahead (sym c.at_end.ensures ∙ c.loop-c-test.false)))
