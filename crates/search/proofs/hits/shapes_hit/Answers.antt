-- `search::hits::shapes_hit` asks each shape of a page and notes it: the shapes to come, with the parts and the vertices to come, are those of the
-- page's walk, and what was noted with what is to come is the whole. Assumes nothing.
use mathlib.Core.Path.{◌≡◌, refl, ap, ◌∙◌}
use mathlib.Core.Bool.{Bool}
use Prim.Native.Nat.{ℕ, ◌+◌, ◌-◌, ◌≤◌, ◌<◌}
use native.Mathlib.Omega.{arith}
use lib.ListN.{length, get_or, take, drop}
use Rattle.answer.proofs.Alls.{all-part}
use Rattle.extent.specs.Rank.{finite}
use Rattle.types.specs.Parts.{total}
use Rattle.types.proofs.Agreeing.{agree-even}
use Rattle.types.proofs.Passed.{hold-agree}
use Rattle.shape.specs.declared.lists.Lists.{Lists}
use Rattle.shape.specs.Outline.{outlines_in}
use Rattle.shape.proofs.Walking.{Walking, walking-none, walking-parts, walking-there, outline_at, walking-cut, walking-stands, walking-more, walking-end}
use Rattle.search.specs.Flags.{only_if}
use Rattle.search.proofs.Placing.{noting-none, noting-more, noting-done}
use Rattle.search.proofs.hits.shapes_hit.Goals as goal

module _ (p : Lists) where
  -- a part count for each type
  even : length p.types.now ≡ length p.counts.now
  even = agree-even p.types.now p.counts.now p.lens.now (hold-agree p.types.now p.counts.now p.lens.now (length p.xs.now) p.parted.parts)

  module _ (i k at : ℕ) (w : Walking p i k at) (h : i < length p.counts.now) where
    typed : i < length p.types.now
    typed = omega (arith, even)

    -- the parts of the shape at i are there, and so are its vertices
    parts-in : k + get_or p.counts.now i 0 ≤ length p.lens.now
    parts-in = walking-parts p i k at w typed

    vertices-in : at + total (take (k + get_or p.counts.now i 0 - k) (drop k p.lens.now)) ≤ length p.xs.now
    vertices-in = walking-there p i k at w typed (k + get_or p.counts.now i 0) _ refl refl

pub loop-i-init : goal.loop-i-init
loop-i-init c = (walking-none _, noting-none c.args.a c.args.n _ _ c.args.flags.now)

pub overflow_add-e : goal.overflow_add-e
overflow_add-e c = omega (arith, parts-in _ _ _ _ c.loop-i.invariant.0 c.loop-i-test.true)

pub offset_bounds-lists-k : goal.offset_bounds-lists-k
offset_bounds-lists-k c = omega (arith, parts-in _ _ _ _ c.loop-i.invariant.0 c.loop-i-test.true)

pub slice_bounds-total-end : goal.slice_bounds-total-end
slice_bounds-total-end c = omega (arith, parts-in _ _ _ _ c.loop-i.invariant.0 c.loop-i-test.true)

pub total-requires : goal.total-requires
total-requires c = omega (arith, vertices-in _ _ _ _ c.loop-i.invariant.0 c.loop-i-test.true)

pub overflow_add-end : goal.overflow_add-end
overflow_add-end c = omega (arith, vertices-in _ _ _ _ c.loop-i.invariant.0 c.loop-i-test.true, c.total.ensures)

pub offset_bounds-lists-at : goal.offset_bounds-lists-at
offset_bounds-lists-at c = omega (arith, vertices-in _ _ _ _ c.loop-i.invariant.0 c.loop-i-test.true, c.total.ensures)

pub slice_bounds-hit-end : goal.slice_bounds-hit-end
slice_bounds-hit-end c = omega (arith, vertices-in _ _ _ _ c.loop-i.invariant.0 c.loop-i-test.true, c.total.ensures)

pub offset_bounds-lists-at-in-loop-i : goal.offset_bounds-lists-at-in-loop-i
offset_bounds-lists-at-in-loop-i c = omega (arith, vertices-in _ _ _ _ c.loop-i.invariant.0 c.loop-i-test.true, c.total.ensures, c.args.lists.parted.same)

pub slice_bounds-hit-end-in-loop-i : goal.slice_bounds-hit-end-in-loop-i
slice_bounds-hit-end-in-loop-i c = omega (arith, vertices-in _ _ _ _ c.loop-i.invariant.0 c.loop-i-test.true, c.total.ensures, c.args.lists.parted.same)

pub hit-is-requires : goal.hit-is-requires
hit-is-requires c =
    let a = c.args in
    let l = c.loop-i in
    let q = c.requires.askable in
    let t = typed _ _ _ _ l.invariant.0 c.loop-i-test.true in
    let e = l.k + get_or a.lists.counts.now l.i 0 in
    let end = l.at + c.total.result in
    let g = ap (λ (m : ℕ). l.at + m) c.total.ensures in
    let o = walking-cut a.lists l.i l.k l.at l.invariant.0 t e end refl g in
    (c.requires.query_value, o.same, all-part finite l.at (end - l.at) a.lists.xs.now q.finite_x, all-part finite l.at (end - l.at) a.lists.ys.now q.finite_y)

pub overflow_add-n : goal.overflow_add-n
overflow_add-n c = omega (arith, c.requires.types_bound, typed _ _ _ _ c.loop-i.invariant.0 c.loop-i-test.true)

pub overflow_add-found : goal.overflow_add-found
overflow_add-found c =
    let l = c.loop-i in
    omega (arith, l.invariant.1.few, c.note-found.ensures.0, c.requires.types_bound, typed _ _ _ _ l.invariant.0 c.loop-i-test.true)

pub loop-i-preserved : goal.loop-i-preserved
loop-i-preserved c =
    let hit = c.hit-is in
    let a = c.args in
    let l = c.loop-i in
    let t = typed _ _ _ _ l.invariant.0 c.loop-i-test.true in
    let e = l.k + get_or a.lists.counts.now l.i 0 in
    let end = l.at + c.total.result in
    let g = ap (λ (m : ℕ). l.at + m) c.total.ensures in
    let o = outline_at (get_or a.lists.types.now l.i 0) a.lists.lens.now a.lists.xs.now a.lists.ys.now l.k e l.at end in (
      walking-more a.lists l.i l.k l.at l.invariant.0 t e end refl g,
      noting-more a.a a.n (outlines_in a.lists) (a.n + length a.lists.types.now) a.flags.now l.i l.found l.flags l.invariant.1 o _ _
          (walking-stands a.lists l.i l.k l.at l.invariant.0 t e end refl g) (omega (arith, t)) (c.note-found.ensures.1 ∙ ap (λ (b : Bool). only_if b 1) hit.ensures)
          (rw (← hit.ensures) c.note-found.ensures.2) c.flags-1.given,
    )

pub shape_of-flags : goal.shape_of-flags
shape_of-flags c = c.loop-i.invariant.1.long

pub returns : goal.returns
returns c =
    let a = c.args in
    let l = c.loop-i in
    let z = walking-end a.lists l.i l.k l.at l.invariant.0 (omega (arith, even a.lists, c.loop-i-test.false)) in
    noting-done a.a a.n (outlines_in a.lists) (a.n + length a.lists.types.now) a.flags.now l.i l.found l.flags l.invariant.1 z
