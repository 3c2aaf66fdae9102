-- A ring's turn: it fits 64 bits, and the walk that adds it up. Assumes nothing.
use mathlib.Core.Path.{◌≡◌, refl, sym, ap, ◌∙◌}
use mathlib.Core.Bool.{true}
use mathlib.Core.List.{List, [], ◌∷◌}
use Prim.Native.Nat.{ℕ, zero, suc, ◌+◌, ◌-◌, ◌*◌, ◌^◌, ◌≤◌, ◌<◌}
use native.Mathlib.Nat.{le_trans}
use native.Mathlib.Numerals.{add-one}
use native.Mathlib.Omega.{arith}
use borrow.Author.Tests.{le-ltb, ne_eqb}
use lib.Dec.{eqb}
use lib.IntN.{ℤ, pos, negsuc, nat_abs, ◌+ℤ◌, ◌*ℤ◌, +ℤ_assoc, +ℤ_idl, +ℤ_idr}
use lib.Signed.{lt_z}
use lib.ListN.{length, get_or, drop, drop_of_length-le}
use lib.Seq.{drop-cons}
use mir.Syntax.{w64}
use mir.Val.{SFits, of_z}
use Rattle.answer.proofs.Both.{both_l, both_r}
use Rattle.answer.specs.All.{all_of}
use Rattle.grid.specs.Grid.{on_grid, whole_of, all_on_grid}
use Rattle.grid.specs.Turn.{edge, turn_of, clockwise, zero_turn}
use Rattle.grid.proofs.Sizes.{mul-within, add-within, sub_within}
use Rattle.grid.proofs.OnGrid.{whole-small}

-- ---- sizes

-- an edge on grid is at most 2 ^ 49
pub edge-fits : (x0 y0 x1 y1 : ℤ) → nat_abs x0 ≤ 2 ^ 24 → nat_abs y0 ≤ 2 ^ 24 → nat_abs x1 ≤ 2 ^ 24 → nat_abs y1 ≤ 2 ^ 24 → nat_abs (edge x0 y0 x1 y1) ≤ 2 ^ 49
edge-fits x0 y0 x1 y1 p q s t = sub_within (2 ^ 48) (2 ^ 48) (x0 *ℤ y1) (x1 *ℤ y0) (mul-within (2 ^ 24) x0 y1 p t) (mul-within (2 ^ 24) x1 y0 s q)

-- a turn on grid is at most 2 ^ 49 for each edge, and there is one edge less than there are vertices
pub turn-fits : (xs ys : List ℕ) → all_on_grid xs ≡ true → all_on_grid ys ≡ true → nat_abs (turn_of xs ys) ≤ (length xs - 1) * 2 ^ 49
unfolding turn_of all_of
turn-fits (x0 ∷ x1 ∷ xs) (y0 ∷ y1 ∷ ys) p q =
    le_trans
    (add-within (2 ^ 49) ((length (x1 ∷ xs) - 1) * 2 ^ 49) (edge (whole_of x0) (whole_of y0) (whole_of x1) (whole_of y1)) (turn_of (x1 ∷ xs) (y1 ∷ ys))
    (edge-fits (whole_of x0) (whole_of y0) (whole_of x1) (whole_of y1) (near x0 (x1 ∷ xs) p) (near y0 (y1 ∷ ys) q) (near x1 xs (rest x0 (x1 ∷ xs) p)) (near y1 ys (rest y0 (y1 ∷ ys) q)))
    (turn-fits (x1 ∷ xs) (y1 ∷ ys) (rest x0 (x1 ∷ xs) p) (rest y0 (y1 ∷ ys) q)))
    (more (length xs))
  where
    rest : (b : ℕ) (bs : List ℕ) → all_on_grid (b ∷ bs) ≡ true → all_on_grid bs ≡ true
    rest b bs e = both_r (on_grid b) (all_on_grid bs) e

    near : (b : ℕ) (bs : List ℕ) → all_on_grid (b ∷ bs) ≡ true → nat_abs (whole_of b) ≤ 2 ^ 24
    near b bs e = whole-small b (both_l (on_grid b) (all_on_grid bs) e)

    more : (n : ℕ) → 2 ^ 49 + (suc n - 1) * 2 ^ 49 ≤ (suc (suc n) - 1) * 2 ^ 49
    more n = omega arith
turn-fits (x0 ∷ x1 ∷ xs) (y0 ∷ []) p q = omega arith
turn-fits (x0 ∷ x1 ∷ xs) [] p q = omega arith
turn-fits (x0 ∷ []) ys p q = omega arith
turn-fits [] ys p q = omega arith

-- so no sum overflows 64 bits at 2,048 edges: it is at most 2 ^ 60
pub turn-64 : (xs ys : List ℕ) → all_on_grid xs ≡ true → all_on_grid ys ≡ true → length xs ≤ 2049 → nat_abs (turn_of xs ys) ≤ 2 ^ 60
turn-64 xs ys p q h = fit (nat_abs (turn_of xs ys)) (length xs) (turn-fits xs ys p q) h
  where
    fit : (z n : ℕ) → z ≤ (n - 1) * 2 ^ 49 → n ≤ 2049 → z ≤ 2 ^ 60
    fit z n h l = omega arith

-- ---- the walk

-- the turn of what is to come after the vertex x, y
unfoldable pub turn_from : ℤ → ℤ → List ℕ → List ℕ → ℤ
turn_from x y (x1 ∷ xs) (y1 ∷ ys) = edge x y (whole_of x1) (whole_of y1) +ℤ turn_from (whole_of x1) (whole_of y1) xs ys
turn_from x y (x1 ∷ xs) [] = pos 0
turn_from x y [] ys = pos 0

from_first : (x y : ℕ) (xs ys : List ℕ) → turn_of (x ∷ xs) (y ∷ ys) ≡ turn_from (whole_of x) (whole_of y) xs ys
unfolding turn_of turn_from
from_first x y (x1 ∷ xs) (y1 ∷ ys) = ap (λ (z : ℤ). edge (whole_of x) (whole_of y) (whole_of x1) (whole_of y1) +ℤ z) (from_first x1 y1 xs ys)
from_first x y (x1 ∷ xs) [] = refl
from_first x y [] ys = refl

-- i vertices are passed, the last of them is x, y, and `sum` is their turn: with what is to come it makes the turn of all
pub record Turning (xs ys : List ℕ) (i : ℕ) (x y sum : ℤ) : Type 0 where
  pub most : i ≤ length xs
  pub near_x : nat_abs x ≤ 2 ^ 24
  pub near_y : nat_abs y ≤ 2 ^ 24
  pub fits : nat_abs sum ≤ i * 2 ^ 49
  pub whole : sum +ℤ turn_from x y (drop i xs) (drop i ys) ≡ turn_of xs ys

-- one vertex
pub turning-first : (xs ys : List ℕ) (x y : ℤ) → 0 < length xs → length ys ≡ length xs → x ≡ whole_of (get_or xs 0 0) → y ≡ whole_of (get_or ys 0 0)
    → nat_abs x ≤ 2 ^ 24 → nat_abs y ≤ 2 ^ 24 → Turning xs ys 1 x y (pos 0)
turning-first [] ys x y h l p q s t = absurd (omega arith)
turning-first (x0 ∷ xs) [] x y h l p q s t = absurd (omega arith)
turning-first (x0 ∷ xs) (y0 ∷ ys) x y h l p q s t = record {
  most = omega arith;
  near_x = s;
  near_y = t;
  fits = omega arith;
  whole = +ℤ_idl (turn_from x y xs ys) ∙ (λ j. turn_from (p j) (q j) xs ys) ∙ sym (from_first x0 y0 xs ys);
}

-- one vertex more
pub turning-more : (xs ys : List ℕ) (i : ℕ) (x y sum x1 y1 : ℤ) → i < length xs → length ys ≡ length xs → x1 ≡ whole_of (get_or xs i 0) → y1 ≡ whole_of (get_or ys i 0)
    → nat_abs x1 ≤ 2 ^ 24 → nat_abs y1 ≤ 2 ^ 24 → Turning xs ys i x y sum → Turning xs ys (i + 1) x1 y1 (sum +ℤ edge x y x1 y1)
turning-more xs ys i x y sum x1 y1 h l p q s t w = record {
  most = omega arith;
  near_x = s;
  near_y = t;
  fits = le_trans (add-within (i * 2 ^ 49) (2 ^ 49) sum (edge x y x1 y1) w.fits (edge-fits x y x1 y1 w.near_x w.near_y s t)) (omega arith);
  whole = +ℤ_assoc sum (edge x y x1 y1) _ ∙ ap (λ (z : ℤ). sum +ℤ z) rest ∙ w.whole;
}
  where
    in_y : i < length ys
    in_y = omega arith

    cons : (x1 y1 : ℤ) (a b : ℕ) (us vs : List ℕ) → x1 ≡ whole_of a → y1 ≡ whole_of b → edge x y x1 y1 +ℤ turn_from x1 y1 us vs ≡ turn_from x y (a ∷ us) (b ∷ vs)
    cons x1 y1 a b us vs p q = unfold turn_from in (λ j. edge x y (p j) (q j) +ℤ turn_from (p j) (q j) us vs)

    rest : edge x y x1 y1 +ℤ turn_from x1 y1 (drop (i + 1) xs) (drop (i + 1) ys) ≡ turn_from x y (drop i xs) (drop i ys)
    rest = ap (λ (n : ℕ). edge x y x1 y1 +ℤ turn_from x1 y1 (drop n xs) (drop n ys)) (add-one i)
        ∙ cons x1 y1 (get_or xs i 0) (get_or ys i 0) (drop (suc i) xs) (drop (suc i) ys) p q
        ∙ (λ j. turn_from x y (sym (drop-cons xs i 0 h) j) (sym (drop-cons ys i 0 in_y) j))

-- all of them
pub turning-done : (xs ys : List ℕ) (i : ℕ) (x y sum : ℤ) → length xs ≤ i → Turning xs ys i x y sum → sum ≡ turn_of xs ys
turning-done xs ys i x y sum h w = sym (+ℤ_idr sum) ∙ ap (λ (z : ℤ). sum +ℤ z) (sym none) ∙ w.whole
  where
    none : turn_from x y (drop i xs) (drop i ys) ≡ pos 0
    none = ap (λ (us : List ℕ). turn_from x y us (drop i ys)) (drop_of_length-le xs h) ∙ (unfold turn_from in refl)

-- no vertex
pub turning-none : (xs ys : List ℕ) → length xs ≡ 0 → pos 0 ≡ turn_of xs ys
unfolding turn_of
turning-none [] ys h = refl
turning-none (x ∷ xs) ys h = absurd (omega arith)

-- ---- its sign

pub below-zero : (z : ℤ) → lt_z z (pos 0) ≡ clockwise z
unfolding clockwise
below-zero (pos n) = le-ltb n 0 (omega arith)
below-zero (negsuc n) = refl

-- by its bits
pub zero_bits : (z : ℤ) → SFits w64 z → eqb (of_z w64 z) 0 ≡ zero_turn z
unfolding zero_turn
zero_bits (pos zero) f = refl
zero_bits (pos (suc n)) f = ne_eqb (suc n) 0 (λ e. absurd (omega (arith, e)))
zero_bits (negsuc n) f = ne_eqb (2 ^ 64 - suc n) 0 (λ e. no f.sfits e)
  where
    no : n < 2 ^ 63 → 2 ^ 64 - suc n ≡ 0 → ⊥
    no h e = omega arith
