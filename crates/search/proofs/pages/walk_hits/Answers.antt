-- `search::pages::walk_hits` goes from each page that the query meets to the next: what was found with what is still to come is the whole, and the
-- pages that may follow get fewer. Assumes nothing.
use mathlib.Core.Path.{sym, ap, ◌∙◌}
use native.Mathlib.Omega.{arith}
use borrow.Author.Tests.{not-true, not-false}
use Rattle.frame.specs.declared.cursor.Glance.{Glance}
use Rattle.frame.proofs.Ahead.{ahead-next, ahead-stop, ahead-go, ahead-page}
use Rattle.search.proofs.Opened.{opened-meets}
use Rattle.search.proofs.Meeting.{meeting-start, meeting-end, meeting-fewer, meeting-refused, meeting-fits, meeting-more, meeting-skip}
use Rattle.search.proofs.pages.walk_hits.Goals as goal

pub next_met-c-requires : goal.next_met-c-requires
next_met-c-requires c =
    (c.requires.0, (_, c.requires.1.ahead))

pub loop-a-init : goal.loop-a-init
loop-a-init c =
    let a = c.args in
    let k = c.next_met-c.ensures in
    (meeting-skip _ _ _ _ _ _ _ (meeting-start a.a a.s.now a.flags.now a.from c.requires.1) k.skipping, k.opened)

pub at_end-requires : goal.at_end-requires
at_end-requires c = ahead-next _ _ _ c.loop-a.invariant.0.ahead

pub page_hits-requires : goal.page_hits-requires
page_hits-requires c =
    let loop = c.loop-a in
    let v = loop.invariant in record { query_value = c.requires.0; within = v.0.ahead.within; c_value = ahead-go _ _ _ loop.invariant.0.ahead (sym c.at_end.ensures ∙ not-true _ c.loop-a-test.true-raw) }

pub overflow_add-found : goal.overflow_add-found
overflow_add-found c =
    let args = c.args in
    let loop = c.loop-a in
    let p = ahead-go _ _ _ loop.invariant.0.ahead (sym c.at_end.ensures ∙ not-true _ c.loop-a-test.true-raw) in
    omega (arith, meeting-fits args.a args.s.now args.flags.now loop.c loop.found loop.flags loop.invariant.0 p.0 p.1 _ _ (opened-meets args.a loop.c.pages loop.c.shapes _ _ _ (loop.invariant.1 p.0 p.1) (c.page_hits.ensures p.0 p.1)) c.in-Ok.n c.in-Ok.is)

pub glance-l-requires : goal.glance-l-requires
glance-l-requires c =
    let loop = c.loop-a in
    (loop.invariant.0.ahead.within.shapes, ahead-go _ _ _ loop.invariant.0.ahead (sym c.at_end.ensures ∙ not-true _ c.loop-a-test.true-raw))

pub next_met-c-requires-in-Ok : goal.next_met-c-requires-in-Ok
next_met-c-requires-in-Ok c =
    let pre = c.requires in
    let loop = c.loop-a in
    let p = c.glance-l.ensures in
    let r = ahead-page _ _ _ loop.invariant.0.ahead p.0 p.1 in
    (pre.0, (r.0, rw (ap (λ (x : Glance). x.next) p.2) r.2))

pub loop-a-smaller : goal.loop-a-smaller
loop-a-smaller c =
    let args = c.args in
    let loop = c.loop-a in
    let p = c.glance-l.ensures in
    let k = c.next_met-c-in-Ok.ensures.skipping.onward in
    let q = ap (λ (x : Glance). x.next.pages) p.2 in
    let l = meeting-fewer args.a args.s.now args.flags.now loop.c loop.found loop.flags loop.invariant.0 p.0 p.1 in
    omega (arith, k, q, l)

pub loop-a-preserved : goal.loop-a-preserved
loop-a-preserved c =
    let args = c.args in
    let loop = c.loop-a in
    let p = c.glance-l.ensures in
    let v = loop.invariant in
    let k = c.next_met-c-in-Ok.ensures in
    let more = meeting-more args.a args.s.now args.flags.now loop.c loop.found loop.flags loop.invariant.0 p.0 p.1 _ _ (opened-meets args.a loop.c.pages loop.c.shapes _ _ _ (loop.invariant.1 p.0 p.1) (c.page_hits.ensures p.0 p.1)) c.in-Ok.n c.in-Ok.is c.flags-1.given in (
      meeting-skip _ _ _ _ _ _ _ (rw (ap (λ (x : Glance). x.next) p.2) more) k.skipping,
      k.opened,
    )

pub shape_of-flags-in-Err : goal.shape_of-flags-in-Err
shape_of-flags-in-Err c =
    let loop = c.loop-a in
    c.flags-1.given ∙ loop.invariant.0.long

pub returns-in-Err : goal.returns-in-Err
returns-in-Err c =
    let args = c.args in
    let loop = c.loop-a in
    let p = ahead-go _ _ _ loop.invariant.0.ahead (sym c.at_end.ensures ∙ not-true _ c.loop-a-test.true-raw) in
    meeting-refused args.a args.s.now args.flags.now loop.c loop.found loop.flags loop.invariant.0 p.0 p.1 _ _ (opened-meets args.a loop.c.pages loop.c.shapes _ _ _ (loop.invariant.1 p.0 p.1) (c.page_hits.ensures p.0 p.1)) c.in-Err.w c.in-Err.is

pub shape_of-flags : goal.shape_of-flags
shape_of-flags c = c.loop-a.invariant.0.long

pub returns : goal.returns
returns c =
    let args = c.args in
    let loop = c.loop-a in
    meeting-end args.a args.s.now args.flags.now loop.c loop.found loop.flags loop.invariant.0 (ahead-stop _ _ _ loop.invariant.0.ahead (sym c.at_end.ensures ∙ not-false _ c.loop-a-test.false-raw))
