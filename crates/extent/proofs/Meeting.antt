-- Two boxes of good form meet exactly when they share a point, and what misses a box misses what it covers. Assumes nothing.
use Rattle.std.proofs.Common.{◌≡◌, ℕ, ◌+◌, ◌^◌, ◌<◌, ◌≤◌, Bool, true, false, cond, List, length, take, drop, refl}
use Rattle.answer.proofs.Both.{not-true, no_both, both_l, both_r}
use Rattle.extent.specs.Rank.{finite, at_most, below}
use Rattle.extent.specs.declared.bounds.Bounds.{Bounds}
use Rattle.extent.specs.Boxes.{in_order, good_form, meets, HoldsPoint, Shares, greater, box_of, Words}
use Rattle.extent.proofs.Tests.{same_test, T_true, true-T, all-four, four-all}
use Rattle.extent.proofs.Ranks.{at-most-refl, at-most-trans, below-at-most, not-below}
use Rattle.extent.proofs.Finite.{IsFinite, greater-has}
use Rattle.extent.proofs.Forms.{good-finite, good-order}
use Rattle.extent.proofs.Boxed.{Covers, covers-part}

-- the four tests, one by one
pub record Meet (p q : Bounds) : Type 0 where
  pub x : at_most p.least_x q.greatest_x ≡ true
  pub x' : at_most q.least_x p.greatest_x ≡ true
  pub y : at_most p.least_y q.greatest_y ≡ true
  pub y' : at_most q.least_y p.greatest_y ≡ true

pub meets-four : (p q : Bounds) → meets p q ≡ true → Meet p q
unfolding meets
meets-four p q e =
    let w = all-four (at_most p.least_x q.greatest_x) (at_most q.least_x p.greatest_x) (at_most p.least_y q.greatest_y) (at_most q.least_y p.greatest_y) e in
    record { x = w.0; x' = w.1; y = w.2; y' = w.3 }

pub four-meets : (p q : Bounds) → Meet p q → meets p q ≡ true
unfolding meets
four-meets p q m = four-all _ _ _ _ m.x m.x' m.y m.y'

-- ---- a point in both

-- a point in both lies between each least and each greatest
pub shares-meets : (p q : Bounds) → Shares p q → meets p q ≡ true
shares-meets p q s = four-meets p q (record {
  x = at-most-trans p.least_x s.x q.greatest_x s.first.from_x s.second.to_x;
  x' = at-most-trans q.least_x s.x p.greatest_x s.second.from_x s.first.to_x;
  y = at-most-trans p.least_y s.y q.greatest_y s.first.from_y s.second.to_y;
  y' = at-most-trans q.least_y s.y p.greatest_y s.second.from_y s.first.to_y;
})

-- the greater of two is at least both
greater-first : (a b : ℕ) → at_most a (greater a b) ≡ true
greater-first a b = unfold greater in go (below a b) refl
  where
    go : (t : Bool) → below a b ≡ t → at_most a (cond t b a) ≡ true
    go true e = below-at-most a b e
    go false e = at-most-refl a

greater-second : (a b : ℕ) → at_most b (greater a b) ≡ true
greater-second a b = unfold greater in go (below a b) refl
  where
    go : (t : Bool) → below a b ≡ t → at_most b (cond t b a) ≡ true
    go true e = at-most-refl b
    go false e = not-below a b e

-- least ≤ greatest, one by one
pub order-x : (p : Bounds) → good_form p ≡ true → at_most p.least_x p.greatest_x ≡ true
order-x p g = unfold in_order in both_l (at_most p.least_x p.greatest_x) (at_most p.least_y p.greatest_y) (good-order p g)

pub order-y : (p : Bounds) → good_form p ≡ true → at_most p.least_y p.greatest_y ≡ true
order-y p g = unfold in_order in both_r (at_most p.least_x p.greatest_x) (at_most p.least_y p.greatest_y) (good-order p g)

-- the greater of the two least is at most a number that both are at most
under : (a b c : ℕ) → at_most a c ≡ true → at_most b c ≡ true → at_most (greater a b) c ≡ true
under a b c p q = greater-has (λ (n : ℕ). at_most n c ≡ true) a b p q

abbrev IsWord : ℕ → Type 0
IsWord b = b < 2 ^ 64

-- the corner: the greater of the two least x, and of the two least y; it is in both boxes
abbrev corner_x : Bounds → Bounds → ℕ
corner_x p q = greater p.least_x q.least_x

abbrev corner_y : Bounds → Bounds → ℕ
corner_y p q = greater p.least_y q.least_y

corner-in-first : (p q : Bounds) → good_form p ≡ true → Meet p q → HoldsPoint p (corner_x p q) (corner_y p q)
corner-in-first p q g m = record {
  from_x = greater-first p.least_x q.least_x;
  to_x = under p.least_x q.least_x p.greatest_x (order-x p g) m.x';
  from_y = greater-first p.least_y q.least_y;
  to_y = under p.least_y q.least_y p.greatest_y (order-y p g) m.y';
}

corner-in-second : (p q : Bounds) → good_form q ≡ true → Meet p q → HoldsPoint q (corner_x p q) (corner_y p q)
corner-in-second p q h m = record {
  from_x = greater-second p.least_x q.least_x;
  to_x = under p.least_x q.least_x q.greatest_x m.x (order-x q h);
  from_y = greater-second p.least_y q.least_y;
  to_y = under p.least_y q.least_y q.greatest_y m.y (order-y q h);
}

corner-finite : (p q : Bounds) → good_form p ≡ true → good_form q ≡ true → (finite (corner_x p q) ≡ true) × (finite (corner_y p q) ≡ true)
corner-finite p q g h =
    let f = good-finite p g in
    let k = good-finite q h in
    (greater-has IsFinite p.least_x q.least_x f.least_x k.least_x, greater-has IsFinite p.least_y q.least_y f.least_y k.least_y)

abbrev corner : (p q : Bounds) → (finite (corner_x p q) ≡ true) × (finite (corner_y p q) ≡ true) → HoldsPoint p (corner_x p q) (corner_y p q)
    → HoldsPoint q (corner_x p q) (corner_y p q) → Shares p q
corner p q f a b = record { x = corner_x p q; y = corner_y p q; finite_x = f.0; finite_y = f.1; first = a; second = b }

pub meets-shares : (p q : Bounds) → good_form p ≡ true → good_form q ≡ true → meets p q ≡ true → Shares p q
meets-shares p q g h e = let m = meets-four p q e in corner p q (corner-finite p q g h) (corner-in-first p q g m) (corner-in-second p q h m)

-- where the two boxes are of 64-bit patterns, there is such a point
pub meets-shares-words : (p q : Bounds) → Words p → Words q → good_form p ≡ true → good_form q ≡ true → meets p q ≡ true
    → (s : Shares p q) × (s.x < 2 ^ 64) × (s.y < 2 ^ 64)
meets-shares-words p q v w g h e =
    let m = meets-four p q e in (
      corner p q (corner-finite p q g h) (corner-in-first p q g m) (corner-in-second p q h m),
      greater-has IsWord p.least_x q.least_x v.least_x w.least_x,
      greater-has IsWord p.least_y q.least_y v.least_y w.least_y,
    )

-- exactly when
pub meets-exactly : (p q : Bounds) → good_form p ≡ true → good_form q ≡ true → (meets p q ≡ true → Shares p q) × (Shares p q → meets p q ≡ true)
meets-exactly p q g h = (meets-shares p q g h, shares-meets p q)

-- the order of the two doesn't matter
flipped : (p q : Bounds) → meets p q ≡ true → meets q p ≡ true
flipped p q e = let m = meets-four p q e in four-meets q p (record { x = m.x'; x' = m.x; y = m.y'; y' = m.y })

pub meets-sym : (p q : Bounds) → meets p q ≡ meets q p
meets-sym p q = same_test (meets p q) (meets q p) (λ t. T_true (flipped p q (true-T (meets p q) t))) (λ t. T_true (flipped q p (true-T (meets q p) t)))

-- ---- a box that misses

-- what meets a covered box meets the box that covers it
pub covers-meets : (p q r : Bounds) → Covers p q → meets q r ≡ true → meets p r ≡ true
covers-meets p q r c e =
    let m = meets-four q r e in
    four-meets p r (record {
      x = at-most-trans p.least_x q.least_x r.greatest_x c.from_x m.x;
      x' = at-most-trans r.least_x q.greatest_x p.greatest_x m.x' c.to_x;
      y = at-most-trans p.least_y q.least_y r.greatest_y c.from_y m.y;
      y' = at-most-trans r.least_y q.greatest_y p.greatest_y m.y' c.to_y;
    })

pub covers-misses : (p q r : Bounds) → Covers p q → meets p r ≡ false → meets q r ≡ false
covers-misses p q r c e = not-true (meets q r) (λ g. no_both e (covers-meets p q r c g))

-- a box that misses that of all vertices misses that of the k vertices from i on
pub part-misses : (xs ys : List ℕ) (i k : ℕ) (r : Bounds) → 0 < k → i + k ≤ length xs → length ys ≡ length xs
    → meets (box_of xs ys) r ≡ false → meets (box_of (take k (drop i xs)) (take k (drop i ys))) r ≡ false
part-misses xs ys i k r h m l e = covers-misses (box_of xs ys) (box_of (take k (drop i xs)) (take k (drop i ys))) r (covers-part xs ys i k h m l) e
