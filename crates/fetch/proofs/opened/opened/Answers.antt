-- `fetch::opened::opened` opens the page of a seat and cuts the shape from its lists, which stand in the start of the scratch's arrays. Assumes nothing.
use mathlib.Core.Path.{◌∙◌}
use Prim.Native.Nat.{◌<◌}
use native.Mathlib.Omega.{arith}
use Rattle.answer.proofs.Outcomes.{handed-on}
use Rattle.frame.proofs.Counts.{Limits}
use Rattle.frame.proofs.Found.{page-is}
use Rattle.page.proofs.Opening.{limits_of, opened-refused}
use Rattle.fetch.specs.Fetch.{rooms_of}
use Rattle.fetch.proofs.Filling.{fetches-refused}
use Rattle.place.proofs.Spans.{span-parts, span-vertices}
use Rattle.fetch.proofs.Opens.{seat-bad, seat-page, index-within, loaded-spans, loaded-vertices, loaded-shape}
use Rattle.fetch.proofs.opened.opened.Goals.{In_ok-p}
use Rattle.fetch.proofs.opened.opened.Goals as goal

pub returns-in_err-p : goal.returns-in_err-p
returns-in_err-p c =
    rw (handed-on c.from_residual.ensures.1)
    (fetches-refused _ (seat-bad _ _ _ (opened-refused _ _ _ _ c.open_in.ensures c.args.t.page c.requires.at_value _ c.in_err-p.was)))

-- what the head of the page that was opened says of its counts, and that the shape is one of the page's
limits : (c : In_ok-p) → Limits c.in_ok-p.p.head.g c.in_ok-p.p.head.v c.in_ok-p.p.head.p
limits c = limits_of _ _ _ (c.open_in.ensures.lists _ c.in_ok-p.was).0

within : (c : In_ok-p) → c.args.t.index < c.in_ok-p.p.head.g
within c = index-within _ _ _ c.requires.at_value (c.open_in.ensures.lists _ c.in_ok-p.was).0 c.requires.index_lt_g

pub row_at-r-requires : goal.row_at-r-requires
row_at-r-requires c =
    let k = page-is _ _ _ (c.open_in.ensures.lists _ c.in_ok-p.was).0 in
    (k.stands.fits, (c.args.t.at.edition, k.headed), within c)

pub shared_ref_as_front-page_lens : goal.shared_ref_as_front-page_lens
shared_ref_as_front-page_lens c = let m = limits (goal.at.shared_ref_as_front-page_lens c).In_ok-p in omega (arith, m.parts, m.vertices)

pub shared_ref_as_front-span_of : goal.shared_ref_as_front-span_of
shared_ref_as_front-span_of c = (limits (goal.at.shared_ref_as_front-span_of c).In_ok-p).few

pub span_of-q-requires : goal.span_of-q-requires
span_of-q-requires c =
    let i = (goal.at.span_of-q-requires c).In_ok-p in
    let r = loaded-spans _ _ _ _ _ _ (c.open_in.ensures.lists _ c.in_ok-p.was).1 _ (within i) (limits i).vertices in
    record { i_in_bounds = r.0; counts_value = r.1; lens_len_bound = (r.2, r.3) }

pub shared_ref_as_front-put_shape : goal.shared_ref_as_front-put_shape
shared_ref_as_front-put_shape c = (limits (goal.at.shared_ref_as_front-put_shape c).In_ok-p).vertices

pub shared_ref_as_front-put_shape-2 : goal.shared_ref_as_front-put_shape-2
shared_ref_as_front-put_shape-2 c = (limits (goal.at.shared_ref_as_front-put_shape-2 c).In_ok-p).vertices

pub put_shape-requires : goal.put_shape-requires
put_shape-requires c =
    let i = (goal.at.put_shape-requires c).In_ok-p in
    let o = (c.open_in.ensures.lists _ c.in_ok-p.was).1 in
    let r = loaded-spans _ _ _ _ _ _ o _ (within i) (limits i).vertices in
    let v = loaded-vertices _ _ _ _ _ _ o in
    let x = span-parts _ _ _ r.0 r.1 in
    let y = span-vertices _ _ _ r.0 r.1 in
    rw c.span_of-q.ensures (record { parts = x.0; lens_reach = x.1; vertices = y.0; xs_reach = rw (← v.0) y.1; same = v.1 })

pub returns : goal.returns
returns c =
    let i = (goal.at.returns c).In_ok-p in
    let o = c.open_in.ensures.lists _ c.in_ok-p.was in
    let r = rooms_of c.args.lens.now c.args.xs.now c.args.ys.now in
    rw (seat-page _ _ _ r c.requires.at_value o.0 ∙ loaded-shape _ _ _ _ _ _ o.1 _ _ _ _ r (within i) c.row_at-r.ensures c.span_of-q.ensures)
    c.put_shape.ensures
