-- `shape::rules::each_shape` tests each shape: those to come, with the parts and the vertices to come, decide. Assumes nothing.
use mathlib.Core.Path.{◌≡◌, refl, sym, ap, ◌∙◌}
use mathlib.Core.List.{[], ◌∷◌, ◌++◌}
use Prim.Native.Nat.{ℕ, ◌+◌, ◌-◌, ◌≤◌, ◌<◌}
use native.Mathlib.Omega.{arith}
use lib.ListN.{length, get_or, take, drop, length-append}
use Rattle.std.proofs.lemmas.Slice.Zip.{zip_turn, zip_end}
use Rattle.types.specs.Parts.{total}
use Rattle.answer.proofs.Alls.{all_more, all-stop, all_here, all_done}
use Rattle.shape.specs.Outline.{outlines_in}
use Rattle.shape.proofs.Walking.{walking-none, walking-table, walking-parts, walking-there, outline_at, walking-stands, walking-more, walking-end, walking-long}
use Rattle.shape.proofs.rules.each_shape.Given.{Over}
use Rattle.shape.proofs.rules.each_shape.Goals as goal
use Rattle.shape.proofs.rules.each_shape.Goals.{In-Some}

-- the shape of this turn: its type and its part count are those at i
module _ (g : Over) (c : In-Some g) where
  abbrev i : ℕ
  i = length c.loop-t.yielded

  abbrev e : ℕ
  e = c.loop-t.k + c.in-Some.n.now

  turn : (i < length c.args.lists.types.now) × (i < length c.args.lists.counts.now)
      × ((d : ℕ) → c.in-Some.t.now ≡ get_or c.args.lists.types.now i d) × ((d : ℕ) → c.in-Some.n.now ≡ get_or c.args.lists.counts.now i d)
  turn =
      zip_turn _ _ c.loop-t.yielded c.into_iter-t-iterator.result c.loop-t.t-iterator c.next.new.self c.next.result (cc) (cc) c.loop-t.yielded_by
      (c.in-Some.t, c.in-Some.n) c.in-Some.is c.next.ensures.steps

  d : e ≡ c.loop-t.k + get_or c.args.lists.counts.now i 0
  d = ap (λ (n : ℕ). c.loop-t.k + n) (turn.3 0)

  parts : e ≤ length c.args.lists.lens.now
  parts = omega (arith, walking-parts _ _ _ _ c.loop-t.invariant.0 turn.0, d)

  inside : c.loop-t.at + total (take (e - c.loop-t.k) (drop c.loop-t.k c.args.lists.lens.now)) ≤ length c.args.lists.xs.now
  inside = walking-there _ _ _ _ c.loop-t.invariant.0 turn.0 _ _ d refl

  -- and with the sum of its part lengths, its vertices
  module _ (r : ℕ) (q : r ≡ total (take (e - c.loop-t.k) (drop c.loop-t.k c.args.lists.lens.now))) where
    to : c.loop-t.at + r ≡ c.loop-t.at + total (take (e - c.loop-t.k) (drop c.loop-t.k c.args.lists.lens.now))
    to = ap (λ (n : ℕ). c.loop-t.at + n) q

    stands : drop i (outlines_in c.args.lists)
        ≡ outline_at c.in-Some.t.now c.args.lists.lens.now c.args.lists.xs.now c.args.lists.ys.now c.loop-t.k e c.loop-t.at (c.loop-t.at + r)
        ∷ drop (i + 1) (outlines_in c.args.lists)
    stands = rw (turn.2 0) (walking-stands _ _ _ _ c.loop-t.invariant.0 turn.0 _ _ d to)

pub loop-t-init : goal.loop-t-init
loop-t-init g c = (walking-none _, refl)

pub slice_bounds-total-end : goal.slice_bounds-total-end
slice_bounds-total-end g c = omega (arith, parts g (goal.at.slice_bounds-total-end g c).In-Some)

pub total-requires : goal.total-requires
total-requires g c = omega (arith, inside g (goal.at.total-requires g c).In-Some)

pub overflow_add-end : goal.overflow_add-end
overflow_add-end g c = omega (arith, inside g (goal.at.overflow_add-end g c).In-Some, c.total.ensures)

pub slice_bounds-holds-end-in-loop-t : goal.slice_bounds-holds-end-in-loop-t
slice_bounds-holds-end-in-loop-t g c = omega (arith, inside g (goal.at.slice_bounds-holds-end-in-loop-t g c).In-Some, c.total.ensures)

pub holds-requires-clause-t_le_last_type : goal.holds-requires-clause-t_le_last_type
holds-requires-clause-t_le_last_type g c =
    let u = turn g (goal.at.holds-requires-clause-t_le_last_type g c).In-Some in
    rw (u.2 0) (walking-table _ _ _ _ c.loop-t.invariant.0 u.0).known

pub holds-requires-clause-ys_value : goal.holds-requires-clause-ys_value
holds-requires-clause-ys_value g c =
    all_here g.R.ShapeRule.ready _ _ _
    (stands g (goal.at.holds-requires-clause-ys_value g c).In-Some _ c.total.ensures) c.requires

pub returns-then-not-holds : goal.returns-then-not-holds
returns-then-not-holds g c =
    all-stop g.R.ShapeRule.test _ _ _ (stands g (goal.at.returns-then-not-holds g c).In-Some _ c.total.ensures)
    (sym c.holds.ensures ∙ c.if-not-holds.true) c.loop-t.invariant.1

pub loop-t-preserved : goal.loop-t-preserved
loop-t-preserved g c =
    let s = (goal.at.loop-t-preserved g c).In-Some in
    let l : length (c.loop-t.yielded ++ ((c.in-Some.t, c.in-Some.n) ∷ [])) ≡ length c.loop-t.yielded + 1 =
    length-append c.loop-t.yielded ((c.in-Some.t, c.in-Some.n) ∷ []) in
    rw l (
      walking-more _ _ _ _ c.loop-t.invariant.0 (turn g s).0 _ _ (d g s) (to g s _ c.total.ensures),
      all_more g.R.ShapeRule.test _ _ _ (stands g s _ c.total.ensures) (sym c.holds.ensures ∙ c.if-not-holds.false) c.loop-t.invariant.1,
    )

pub returns : goal.returns
returns g c =
    let n =
    zip_end c.args.lists.types.now c.args.lists.counts.now c.loop-t.yielded c.into_iter-t-iterator.result c.loop-t.t-iterator c.next.new.self c.next.result (cc) (cc)
    c.loop-t.yielded_by c.in-None.is c.next.ensures.steps in
    let all = walking-end _ _ _ _ c.loop-t.invariant.0 (omega (arith, n, walking-long _ _ _ _ c.loop-t.invariant.0)) in
    all_done g.R.ShapeRule.test _ _ all c.loop-t.invariant.1
