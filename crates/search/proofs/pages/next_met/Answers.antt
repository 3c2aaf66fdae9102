-- `search::pages::next_met` passes by the pages that the query does not meet: what is to come has the same hits, and the pages that may follow get
-- fewer. Assumes nothing.
use mathlib.Core.Path.{◌≡◌, sym, ap, subst, ◌∙◌}
use mathlib.Core.Bool.{Bool}
use borrow.Author.Tests.{not-true, not-false}
use Rattle.extent.specs.Boxes.{FiniteBox, patterns}
use Rattle.le.proofs.Numbers.{bytes-part}
use Rattle.query.specs.declared.ask.Ask.{Ask}
use Rattle.query.specs.Ask.{opens}
use Rattle.frame.specs.declared.cursor.Glance.{Glance}
use Rattle.frame.specs.declared.cursor.PageAt.{PageAt}
use Rattle.frame.specs.Next.{glance_of}
use Rattle.frame.proofs.Found.{page-is}
use Rattle.frame.proofs.Ahead.{ahead-next, ahead-stop, ahead-go}
use Rattle.page.proofs.Loading.{head-box}
use Rattle.search.proofs.Skipping.{skipping-start, skips-end, skips-page, skipping-fewer, skipping-more}
use Rattle.search.proofs.pages.next_met.Goals as goal

-- what the test of a glance says of the page
met_at : (a : Ask) (l : Glance) (p : PageAt) → l ≡ glance_of p → {t : Bool} → opens a l.v (patterns l.stored) ≡ t
    → opens a p.head.v (patterns p.head.stored) ≡ t
met_at a l p e h = sym (ap (λ (x : Glance). opens a x.v (patterns x.stored)) e) ∙ h

pub loop-a-init : goal.loop-a-init
loop-a-init c = skipping-start c.args.a c.args.s.now c.args.from c.requires.1.0 c.requires.1.1

pub at_end-requires : goal.at_end-requires
at_end-requires c = ahead-next _ _ _ c.loop-a.invariant.from_d

pub glance-l-requires : goal.glance-l-requires
glance-l-requires c = (c.loop-a.invariant.from_d.within.shapes, ahead-go _ _ _ c.loop-a.invariant.from_d (sym c.at_end.ensures ∙ not-true _ c.loop-a-test.true-raw))

pub opens-requires : goal.opens-requires
opens-requires c =
    let args = c.args in
    let pre = c.requires in
    let shared-slice-known = c.shared_slice_known-1 in
    let g = c.glance-l.ensures in
    let s = args.s.now in
    let k = page-is s c.loop-a.c g.0 g.1 in (
      pre.0,
      subst (λ (x : Glance). FiniteBox (patterns x.stored)) (sym g.2)
          (head-box c.loop-a.c.edition _ g.0.head (bytes-part s g.0.body g.0.len (λ i. (shared-slice-known.given i).fits)) k.headed),
    )

pub returns-then-opens : goal.returns-then-opens
returns-then-opens c =
    let g = c.glance-l.ensures in
    skips-page _ _ _ _ c.loop-a.invariant g.0 g.1 (met_at _ _ g.0 g.2 (sym c.opens.ensures ∙ c.if-opens.true))

pub loop-a-smaller : goal.loop-a-smaller
loop-a-smaller c =
    let g = c.glance-l.ensures in
    rw (ap (λ (x : Glance). x.next) g.2) (skipping-fewer _ _ _ _ c.loop-a.invariant g.0 g.1)

pub loop-a-preserved : goal.loop-a-preserved
loop-a-preserved c =
    let loop = c.loop-a in
    let g = c.glance-l.ensures in
    rw (ap (λ (x : Glance). x.next) g.2) (skipping-more _ _ _ _ loop.invariant g.0 g.1 (met_at _ _ g.0 g.2 (sym c.opens.ensures ∙ c.if-opens.false)))

pub returns : goal.returns
returns c = skips-end _ _ _ _ c.loop-a.invariant (ahead-stop _ _ _ c.loop-a.invariant.from_d (sym c.at_end.ensures ∙ not-false _ c.loop-a-test.false-raw))
