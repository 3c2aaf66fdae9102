-- `search::pages::page_hits` opens the page at the cursor and asks its shapes, which stand in the start of the scratch's arrays. Assumes nothing.
use mathlib.Core.Path.{refl}
use native.Mathlib.Nat.{le_trans}
use native.Mathlib.Omega.{arith}
use Rattle.frame.specs.Next.{part}
use Rattle.frame.specs.Frame.{page_of}
use Rattle.frame.proofs.Counts.{Limits}
use Rattle.frame.proofs.Found.{page-is}
use Rattle.page.proofs.Opening.{limits_of, types-end, types-in, opened-refused}
use Rattle.page.proofs.Vertices.{vertices-long}
use Rattle.page.proofs.Contained.{loaded-ready}
use Rattle.search.proofs.Opened.{opened-bad, contents-met, meets-there}
use Rattle.search.proofs.pages.page_hits.Goals.{In-Ok}
use Rattle.search.proofs.pages.page_hits.Goals as goal

-- what the head of the page that was opened says of its counts
limits : (c : In-Ok) → Limits c.in-Ok.p.head.g c.in-Ok.p.head.v c.in-Ok.p.head.p
limits c = limits_of c.args.s.now c.args.c _ (c.open_in.ensures.lists c.in-Ok.p c.in-Ok.is).0

pub overflow_add-from : goal.overflow_add-from
overflow_add-from c =
    let o = c.open_in.ensures.lists c.in-Ok.p c.in-Ok.is in
    omega (arith, types-end c.args.s.now c.args.c c.in-Ok.p o.0, c.well_formed.1.0)

pub overflow_add-to : goal.overflow_add-to
overflow_add-to c =
    let o = c.open_in.ensures.lists c.in-Ok.p c.in-Ok.is in
    omega (arith, types-end c.args.s.now c.args.c c.in-Ok.p o.0, c.well_formed.1.0)

pub slice_bounds-lists-end : goal.slice_bounds-lists-end
slice_bounds-lists-end c =
    let o = c.open_in.ensures.lists c.in-Ok.p c.in-Ok.is in
    types-end c.args.s.now c.args.c c.in-Ok.p o.0

pub shared_ref_as_front-lists : goal.shared_ref_as_front-lists
shared_ref_as_front-lists c = (limits (goal.at.shared_ref_as_front-lists c).In-Ok).few

pub shared_ref_as_front-lists-in-Ok : goal.shared_ref_as_front-lists-in-Ok
shared_ref_as_front-lists-in-Ok c = let m = limits (goal.at.shared_ref_as_front-lists-in-Ok c).In-Ok in le_trans m.parts m.vertices

pub shared_ref_as_front-lists-in-Ok-2 : goal.shared_ref_as_front-lists-in-Ok-2
shared_ref_as_front-lists-in-Ok-2 c = (limits (goal.at.shared_ref_as_front-lists-in-Ok-2 c).In-Ok).vertices

pub shared_ref_as_front-lists-in-Ok-3 : goal.shared_ref_as_front-lists-in-Ok-3
shared_ref_as_front-lists-in-Ok-3 c = (limits (goal.at.shared_ref_as_front-lists-in-Ok-3 c).In-Ok).vertices

pub invariant_of-lists : goal.invariant_of-lists
invariant_of-lists c =
    let o = c.open_in.ensures.lists c.in-Ok.p c.in-Ok.is in
    let m = limits_of c.args.s.now c.args.c c.in-Ok.p o.0 in
    let h = c.in-Ok.p.head in
    let b = part c.args.s.now c.in-Ok.p.body c.in-Ok.p.len in
    let t = types-in c.args.s.now c.args.c c.in-Ok.p o.0 _ _ refl refl in
    let y = loaded-ready h b _ _ _ _ o.1 _ t in
    let n = vertices-long h b _ _ o.1.vertices in
    record { parted = record { parts = y.1; same = y.2; few = omega (arith, n.0, m.vertices) } }

pub shapes_hit-requires : goal.shapes_hit-requires
shapes_hit-requires c =
    let o = c.open_in.ensures.lists c.in-Ok.p c.in-Ok.is in
    let m = limits (goal.at.shapes_hit-requires c).In-Ok in
    let h = c.in-Ok.p.head in
    let t = types-in c.args.s.now c.args.c c.in-Ok.p o.0 _ _ refl refl in
    let y = loaded-ready h (part c.args.s.now c.in-Ok.p.body c.in-Ok.p.len) _ _ _ _ o.1 _ t in
    let k = page-is c.args.s.now c.args.c c.in-Ok.p o.0 in
    record { query_value = c.requires.query_value; types_bound = omega (arith, c.requires.within.shapes, k.few, m.few, y.0); askable = record { finite_x = o.1.finite_x; finite_y = o.1.finite_y } }

pub returns-in-Err : goal.returns-in-Err
returns-in-Err c =
    let a = c.args in
    λ p e. opened-bad a.a a.c.pages a.c.shapes _ (page_of a.s.now p) _ (opened-refused _ _ _ _ c.open_in.ensures p e _ c.in-Err.is)

pub returns-in-Ok : goal.returns-in-Ok
returns-in-Ok c =
    let o = c.open_in.ensures.lists c.in-Ok.p c.in-Ok.is in
    let r = c.shapes_hit.ensures in
    let t = types-in c.args.s.now c.args.c c.in-Ok.p o.0 _ _ refl refl in
    meets-there c.args.a c.args.s.now c.args.c _ c.in-Ok.p o.0
    (contents-met c.in-Ok.p.head (part c.args.s.now c.in-Ok.p.body c.in-Ok.p.len) _ _ _ _ o.1 _ t c.args.a c.args.c.pages c.args.c.shapes _ r.0 r.1)
