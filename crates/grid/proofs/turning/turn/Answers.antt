-- `grid::turning::turn` meets its contract. The invariant: the sum so far and the vertices to come make the turn, and the sum is at most 2 ^ 49 for
-- each vertex passed, so it fits. Assumes nothing.
use mathlib.Core.Path.{◌≡◌, refl, sym, ap, ◌∙◌, subst}
use mathlib.Core.List.{List}
use Prim.Native.Nat.{ℕ, ◌+◌, ◌*◌, ◌^◌, ◌≤◌, ◌<◌}
use native.Mathlib.Omega.{arith}
use lib.IntN.{ℤ, nat_abs, ◌+ℤ◌}
use lib.ListN.{length}
use mir.Syntax.{w64}
use mir.Val.{SFits, to_z, of_z}
use Rattle.answer.proofs.Alls.{all-at}
use Rattle.grid.specs.Grid.{on_grid, whole_of}
use Rattle.grid.specs.Turn.{edge}
use Rattle.grid.proofs.Sizes.{fits-64, back-64}
use Rattle.grid.proofs.Turns.{edge-fits, Turning, turning-first, turning-more, turning-done, turning-none}
use Rattle.grid.proofs.turning.turn.Goals as goal

-- a vertex's whole number is read back from its bits
vertex : (r : ℤ) (b : ℕ) → (r ≡ whole_of b) × (nat_abs r ≤ 2 ^ 24) → (to_z w64 (of_z w64 r) ≡ whole_of b) × (nat_abs (to_z w64 (of_z w64 r)) ≤ 2 ^ 24)
vertex r b e = let q = back-64 (2 ^ 24) r r refl e.1 (omega arith) in (q ∙ e.0, subst (λ (z : ℤ). nat_abs z ≤ 2 ^ 24) (sym q) e.1)

-- with the edge, the sum is that of one vertex more, and it fits
module _ (xs ys : List ℕ) (i : ℕ) (x y sum next_x next_y e : ℤ) (inside : i < length xs) (few : length xs ≤ 2048) (now : Turning xs ys i x y sum) (more : Turning xs ys (i + 1) next_x next_y (sum +ℤ edge x y next_x next_y)) (is : e ≡ edge x y next_x next_y) where
  summed : sum +ℤ to_z w64 (of_z w64 e) ≡ sum +ℤ edge x y next_x next_y
  summed = ap (λ (z : ℤ). sum +ℤ z) (back-64 (2 ^ 49) e (edge x y next_x next_y) is (edge-fits x y next_x next_y now.near_x now.near_y more.near_x more.near_y) (omega arith))

  small : (i + 1) * 2 ^ 49 < 2 ^ 63
  small = fit i (length xs) inside few
    where
      fit : (i n : ℕ) → i < n → n ≤ 2048 → (i + 1) * 2 ^ 49 < 2 ^ 63
      fit i n h l = omega arith

  sum_fits : SFits w64 (sum +ℤ to_z w64 (of_z w64 e))
  sum_fits = subst (SFits w64) (sym summed) (fits-64 ((i + 1) * 2 ^ 49) _ more.fits small)

  again : Turning xs ys (i + 1) next_x next_y (to_z w64 (of_z w64 (sum +ℤ to_z w64 (of_z w64 e))))
  again = subst (Turning xs ys (i + 1) next_x next_y) (sym (back-64 ((i + 1) * 2 ^ 49) _ _ summed more.fits small)) more

pub returns-then-xs-eq0 : goal.returns-then-xs-eq0
returns-then-xs-eq0 c = turning-none c.args.xs.now c.args.ys.now (omega arith)

pub whole-x-requires : goal.whole-x-requires
whole-x-requires c = all-at on_grid c.args.xs.now 0 0 c.requires.2 (omega arith)

pub whole-y-requires : goal.whole-y-requires
whole-y-requires c = all-at on_grid c.args.ys.now 0 0 c.requires.3 (omega (arith, c.requires.0))

pub loop-i-init : goal.loop-i-init
loop-i-init c =
    let x = vertex _ _ c.whole-x.ensures in
    let y = vertex _ _ c.whole-y.ensures in
    turning-first c.args.xs.now c.args.ys.now _ _ (omega arith) c.requires.0 x.0 y.0 x.1 y.1

pub whole-next_x-requires : goal.whole-next_x-requires
whole-next_x-requires c = all-at on_grid c.args.xs.now _ 0 c.requires.2 (omega arith)

pub whole-next_y-requires : goal.whole-next_y-requires
whole-next_y-requires c = all-at on_grid c.args.ys.now _ 0 c.requires.3 (omega (arith, c.requires.0))

pub loop-i-preserved : goal.loop-i-preserved
loop-i-preserved c =
    let u = vertex _ _ c.whole-next_x.ensures in
    let v = vertex _ _ c.whole-next_y.ensures in
    again c.args.xs.now c.args.ys.now c.loop-i.i _ _ _ _ _ c.edge-sum.result c.loop-i-test.true c.requires.1 c.loop-i.invariant
    (turning-more c.args.xs.now c.args.ys.now c.loop-i.i _ _ _ _ _ c.loop-i-test.true c.requires.0 u.0 v.0 u.1 v.1 c.loop-i.invariant) c.edge-sum.ensures

pub overflow_add-sum : goal.overflow_add-sum
overflow_add-sum c =
    let u = vertex _ _ c.whole-next_x.ensures in
    let v = vertex _ _ c.whole-next_y.ensures in
    sum_fits c.args.xs.now c.args.ys.now c.loop-i.i _ _ _ _ _ c.edge-sum.result c.loop-i-test.true c.requires.1 c.loop-i.invariant
    (turning-more c.args.xs.now c.args.ys.now c.loop-i.i _ _ _ _ _ c.loop-i-test.true c.requires.0 u.0 v.0 u.1 v.1 c.loop-i.invariant) c.edge-sum.ensures

pub returns : goal.returns
returns c = turning-done c.args.xs.now c.args.ys.now c.loop-i.i _ _ _ (omega arith) c.loop-i.invariant
