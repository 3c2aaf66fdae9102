-- The rings of a MultiPolygon: the first must be clockwise, and then the others decide. Assumes nothing.
use mathlib.Core.Path.{◌≡◌, refl, sym, ap, ◌∙◌}
use mathlib.Core.Bool.{Bool, true, false, not, false≢true}
use mathlib.Core.List.{List, [], ◌∷◌}
use Prim.Native.Nat.{ℕ, ◌-◌, ◌≤◌}
use native.Mathlib.Omega.{arith}
use lib.IntN.{ℤ, pos, negsuc}
use lib.ListN.{length, take, drop, length-drop}
use Rattle.answer.specs.All.{all_of}
use Rattle.answer.proofs.Both.{first-fails, then}
use Rattle.answer.proofs.Alls.{all_none, all_cons, all_drop}
use Rattle.types.proofs.Sums.{total-cons}
use Rattle.grid.specs.Grid.{on_grid}
use Rattle.grid.specs.Turn.{turn_of, clockwise, zero_turn}
use Rattle.shape.specs.Outline.{Part, part_with, parts_of}
use Rattle.shape.specs.Rules.{ring_turn, turn_not_zero, first_clockwise, rings_turned}
use Rattle.shape.specs.Ready.{Cut, Gridded}

-- a clockwise turn is not zero
pub clockwise-turned : (p : Part) → clockwise (ring_turn p) ≡ true → turn_not_zero p ≡ true
unfolding turn_not_zero clockwise zero_turn
clockwise-turned p e = go (ring_turn p) e
  where
    go : (z : ℤ) → clockwise z ≡ true → not (zero_turn z) ≡ true
    go (pos n) e = absurd (false≢true e)
    go (negsuc n) e = refl

-- ---- a first ring and others

pub rings-none : true ≡ rings_turned []
unfolding rings_turned first_clockwise
rings-none = sym (all_none turn_not_zero)

module _ (p : Part) (ps : List Part) where
  rings-first : clockwise (ring_turn p) ≡ true → rings_turned (p ∷ ps) ≡ all_of turn_not_zero ps
  unfolding rings_turned first_clockwise
  rings-first e = sym (then (clockwise (ring_turn p)) (all_of turn_not_zero (p ∷ ps)) (all_of turn_not_zero ps) e (then (turn_not_zero p) (all_of turn_not_zero ps) (all_of turn_not_zero ps) (clockwise-turned p e) refl ∙ sym (all_cons turn_not_zero p ps)))

  rings-wrong : clockwise (ring_turn p) ≡ false → false ≡ rings_turned (p ∷ ps)
  unfolding rings_turned first_clockwise
  rings-wrong e = first-fails (clockwise (ring_turn p)) (all_of turn_not_zero (p ∷ ps)) e

-- ---- by the part lengths and the vertices

pub turned_none : (lens xs ys : List ℕ) → length lens ≡ 0 → true ≡ rings_turned (parts_of lens xs ys)
unfolding parts_of
turned_none [] xs ys h = rings-none
turned_none (n ∷ lens) xs ys h = absurd (omega arith)

-- n vertices are the first part's
module _ (n : ℕ) (lens xs ys : List ℕ) where
  -- the first part's vertices are there
  pub first-there : Cut (n ∷ lens) xs ys → n ≤ length xs
  first-there u = omega (arith, u.sum, total-cons n lens)

  -- the others', too
  pub cut-rest : Cut (n ∷ lens) xs ys → Cut lens (drop n xs) (drop n ys)
  cut-rest u = record {
    sum = omega (arith, u.sum, total-cons n lens, length-drop n xs);
    same = length-drop n ys ∙ ap (λ (k : ℕ). k - n) u.same ∙ sym (length-drop n xs);
  }

  -- the first is clockwise, and the others decide
  pub turned-rest : (r : Bool) → clockwise (turn_of (take n xs) (take n ys)) ≡ true → r ≡ all_of turn_not_zero (parts_of lens (drop n xs) (drop n ys))
      → r ≡ rings_turned (parts_of (n ∷ lens) xs ys)
  unfolding ring_turn parts_of
  turned-rest r t e = e ∙ sym (rings-first (part_with (take n xs) (take n ys)) _ t)

  -- it is not
  pub turned-wrong : clockwise (turn_of (take n xs) (take n ys)) ≡ false → false ≡ rings_turned (parts_of (n ∷ lens) xs ys)
  unfolding ring_turn parts_of
  turned-wrong t = rings-wrong (part_with (take n xs) (take n ys)) _ t

pub gridded-rest : (n : ℕ) (xs ys : List ℕ) → Gridded xs ys → Gridded (drop n xs) (drop n ys)
gridded-rest n xs ys g = record {
  same = length-drop n ys ∙ ap (λ (k : ℕ). k - n) g.same ∙ sym (length-drop n xs);
  few = omega (arith, g.few, length-drop n xs);
  grid_x = all_drop on_grid n xs g.grid_x;
  grid_y = all_drop on_grid n ys g.grid_y;
}
