-- A box is four floats: least x, least y, greatest x, greatest y. Here it is taken by their bit patterns. Assumes nothing.
use Rattle.std.specs.Prelude.{◌≡◌, ℕ, ◌+◌, ◌^◌, ◌<◌, Bool, true, cond, ◌&&◌, List, [], ◌∷◌, to_bits, Float}
use Rattle.std.specs.Float.{binary64}
use Rattle.le.specs.Number.{number_at}
use Rattle.extent.specs.Rank.{finite, at_most, below, same_value}
use Rattle.extent.specs.declared.boxes.Box.{Box}
use Rattle.extent.specs.declared.bounds.Bounds.{Bounds}

-- four patterns of 64 bits
pub record Words (p : Bounds) : Type 0 where
  pub least_x : p.least_x < 2 ^ 64
  pub least_y : p.least_y < 2 ^ 64
  pub greatest_x : p.greatest_x < 2 ^ 64
  pub greatest_y : p.greatest_y < 2 ^ 64

-- the pattern of a float
abbrev pub pattern_of : Float → ℕ
pattern_of x = to_bits binary64 x

-- the patterns of a box
abbrev pub patterns : Box → Bounds
patterns b = record {
  least_x = pattern_of b.least_x;
  least_y = pattern_of b.least_y;
  greatest_x = pattern_of b.greatest_x;
  greatest_y = pattern_of b.greatest_y;
}

-- four patterns as they stand in bytes, from place at on
unfoldable pub bounds_at : List ℕ → ℕ → Bounds
bounds_at s at = record {
  least_x = number_at 8 s at;
  least_y = number_at 8 s (at + 8);
  greatest_x = number_at 8 s (at + 16);
  greatest_y = number_at 8 s (at + 24);
}

-- all four are finite, as a test
unfoldable pub four_finite : Bounds → Bool
four_finite p = finite p.least_x && finite p.least_y && finite p.greatest_x && finite p.greatest_y

-- all four are finite, one by one
pub record FiniteBox (p : Bounds) : Type 0 where
  pub least_x : finite p.least_x ≡ true
  pub least_y : finite p.least_y ≡ true
  pub greatest_x : finite p.greatest_x ≡ true
  pub greatest_y : finite p.greatest_y ≡ true

-- not reversed: least ≤ greatest
unfoldable pub in_order : Bounds → Bool
in_order p = at_most p.least_x p.greatest_x && at_most p.least_y p.greatest_y

-- finite and not reversed
unfoldable pub good_form : Bounds → Bool
good_form p = four_finite p && in_order p

-- two boxes are the same in value
unfoldable pub same_box : Bounds → Bounds → Bool
same_box p q =
    same_value p.least_x q.least_x && same_value p.least_y q.least_y
    && same_value p.greatest_x q.greatest_x && same_value p.greatest_y q.greatest_y

-- ---- two boxes meet if they share a point, edges included

-- no box begins past the end of the other
unfoldable pub meets : Bounds → Bounds → Bool
meets p q =
    at_most p.least_x q.greatest_x && at_most q.least_x p.greatest_x
    && at_most p.least_y q.greatest_y && at_most q.least_y p.greatest_y

-- the point x, y lies in the box, edges included
pub record HoldsPoint (p : Bounds) (x y : ℕ) : Type 0 where
  pub from_x : at_most p.least_x x ≡ true
  pub to_x : at_most x p.greatest_x ≡ true
  pub from_y : at_most p.least_y y ≡ true
  pub to_y : at_most y p.greatest_y ≡ true

-- there is a finite point in both
pub record Shares (p q : Bounds) : Type 0 where
  pub x : ℕ
  pub y : ℕ
  pub finite_x : finite x ≡ true
  pub finite_y : finite y ≡ true
  pub first : HoldsPoint p x y
  pub second : HoldsPoint q x y

-- ---- the box of vertices

-- the lesser of two in value: a, the first met, where they are equal
unfoldable pub lesser : ℕ → ℕ → ℕ
lesser a x = cond (below x a) x a

-- the greater of two in value, likewise
unfoldable pub greater : ℕ → ℕ → ℕ
greater a x = cond (below a x) x a

-- the least of a and those after it, the first met among equals
unfoldable pub least_of : ℕ → List ℕ → ℕ
least_of a [] = a
least_of a (x ∷ xs) = least_of (lesser a x) xs

-- the greatest of them, likewise
unfoldable pub greatest_of : ℕ → List ℕ → ℕ
greatest_of a [] = a
greatest_of a (x ∷ xs) = greatest_of (greater a x) xs

-- a spot is a window of one point
abbrev pub spot_of : ℕ → ℕ → Bounds
spot_of x y = record { least_x = x; least_y = y; greatest_x = x; greatest_y = y }

-- a box with more vertices, by their x and their y
abbrev pub with_all : Bounds → List ℕ → List ℕ → Bounds
with_all p xs ys = record {
  least_x = least_of p.least_x xs;
  least_y = least_of p.least_y ys;
  greatest_x = greatest_of p.greatest_x xs;
  greatest_y = greatest_of p.greatest_y ys;
}

-- the box of vertices, by their x and their y; of no vertex, all zero
unfoldable pub box_of : List ℕ → List ℕ → Bounds
box_of (x ∷ xs) (y ∷ ys) = with_all (spot_of x y) xs ys
box_of (x ∷ xs) [] = spot_of 0 0
box_of [] ys = spot_of 0 0
