-- The keys of the finite patterns lie between 2 ^ 52 and 2 ^ 64 - 2 ^ 52, so that what lies between two finite values is finite, and two values in order
-- need one test each. Assumes nothing.
use Rattle.std.proofs.Common.{◌≡◌, ℕ, ◌-◌, ◌*◌, ◌%◌, ◌^◌, ◌<◌, ◌≤◌, Bool, true, false, ◌&&◌, ltb, leb, sym, refl, lt_of_lt_of_le, lt_of_le_of_lt, arith, ltb→lt, lt→ltb}
use Rattle.answer.proofs.Both.{not-true, both, both_l, both_r}
use Rattle.extent.specs.Rank.{finite, key_of, key, at_most, same_value}
use Rattle.extent.specs.declared.bounds.Bounds.{Bounds}
use Rattle.extent.specs.Boxes.{four_finite, in_order, good_form}
use Rattle.extent.specs.Forms.{good_axis}
use Rattle.extent.proofs.Tests.{same_test, T_true, true-T, all-four, four-all}
use Rattle.extent.proofs.Patterns.{finite-size, not-finite-size}
use Rattle.extent.proofs.Keys.{at-most-le, le-at-most, same-eq}

-- ---- one pattern

pub finite-above : (b : ℕ) → finite b ≡ true → 2 ^ 52 < key b
unfolding key
finite-above b e = go (leb (2 ^ 63) b) (b % 2 ^ 63) (finite-size b e)
  where
    go : (s : Bool) (n : ℕ) → n < 2047 * 2 ^ 52 → 2 ^ 52 < key_of (2 ^ 63) s n
    go false n h = omega arith
    go true n h = omega arith

pub finite-under : (b : ℕ) → finite b ≡ true → key b < 2 ^ 64 - 2 ^ 52
unfolding key
finite-under b e = go (leb (2 ^ 63) b) (b % 2 ^ 63) (finite-size b e)
  where
    go : (s : Bool) (n : ℕ) → n < 2047 * 2 ^ 52 → key_of (2 ^ 63) s n < 2 ^ 64 - 2 ^ 52
    go false n h = omega arith
    go true n h = omega arith

pub between-finite : (b : ℕ) → 2 ^ 52 < key b → key b < 2 ^ 64 - 2 ^ 52 → finite b ≡ true
unfolding key
between-finite b h k = go (finite b) refl
  where
    low : b % 2 ^ 63 < 2 ^ 63
    low = omega arith

    none : (s : Bool) (n : ℕ) → n < 2 ^ 63 → 2 ^ 52 < key_of (2 ^ 63) s n → key_of (2 ^ 63) s n < 2 ^ 64 - 2 ^ 52 → 2047 * 2 ^ 52 ≤ n → ⊥
    none false n m p q l = omega arith
    none true n m p q l = omega arith

    go : (t : Bool) → finite b ≡ t → finite b ≡ true
    go true e = e
    go false e = absurd (none (leb (2 ^ 63) b) (b % 2 ^ 63) low h k (not-finite-size b e))

-- what lies between two finite ones is finite
pub finite-between : (a b c : ℕ) → finite a ≡ true → finite c ≡ true → key a ≤ key b → key b ≤ key c → finite b ≡ true
finite-between a b c f g p q = between-finite b (lt_of_lt_of_le (finite-above a f) p) (lt_of_le_of_lt q (finite-under c g))

-- what is equal in value to a finite one is finite
pub same-finite : (a b : ℕ) → same_value a b ≡ true → finite b ≡ true → finite a ≡ true
same-finite a b e f = let k = same-eq a b e in finite-between b a b f f (omega (arith, k)) (omega (arith, k))

-- ---- two in order

module _ (a b : ℕ) where
  pub axis-holds : at_most a b ≡ true → 2 ^ 52 < key a → key b < 2 ^ 64 - 2 ^ 52 → good_axis a b ≡ true
  unfolding good_axis
  axis-holds o h k =
      let l = at-most-le a b o in
      both (both (between-finite a h (omega (arith, l, k))) (between-finite b (omega (arith, h, l)) k)) o

  pub axis-order : good_axis a b ≡ true → at_most a b ≡ true
  unfolding good_axis
  axis-order e = both_r (finite a && finite b) (at_most a b) e

  pub axis-least : good_axis a b ≡ true → finite a ≡ true
  unfolding good_axis
  axis-least e = both_l (finite a) (finite b) (both_l (finite a && finite b) (at_most a b) e)

  pub axis-greatest : good_axis a b ≡ true → finite b ≡ true
  unfolding good_axis
  axis-greatest e = both_r (finite a) (finite b) (both_l (finite a && finite b) (at_most a b) e)

-- ---- good form is a good axis twice

axes-good : (p : Bounds) → good_axis p.least_x p.greatest_x ≡ true → good_axis p.least_y p.greatest_y ≡ true → good_form p ≡ true
unfolding good_form four_finite in_order
axes-good p e g =
    both (four-all _ _ _ _ (axis-least _ _ e) (axis-least _ _ g) (axis-greatest _ _ e) (axis-greatest _ _ g)) (both (axis-order _ _ e) (axis-order _ _ g))

module _ (p : Bounds) (e : good_form p ≡ true) where
  four : (finite p.least_x ≡ true) × (finite p.least_y ≡ true) × (finite p.greatest_x ≡ true) × (finite p.greatest_y ≡ true)
  unfolding good_form four_finite
  four = all-four _ _ _ _ (both_l (four_finite p) (in_order p) e)

  good-x : good_axis p.least_x p.greatest_x ≡ true
  unfolding good_axis good_form in_order
  good-x = both (both four.0 four.2) (both_l (at_most p.least_x p.greatest_x) (at_most p.least_y p.greatest_y) (both_r (four_finite p) (in_order p) e))

  good-y : good_axis p.least_y p.greatest_y ≡ true
  unfolding good_axis good_form in_order
  good-y = both (both four.1 four.3) (both_r (at_most p.least_x p.greatest_x) (at_most p.least_y p.greatest_y) (both_r (four_finite p) (in_order p) e))

pub good-axes : (p : Bounds) → good_form p ≡ (good_axis p.least_x p.greatest_x && good_axis p.least_y p.greatest_y)
good-axes p =
    let x = good_axis p.least_x p.greatest_x in
    let y = good_axis p.least_y p.greatest_y in
    same_test (good_form p) (x && y) (λ t. let e = true-T (good_form p) t in T_true (both (good-x p e) (good-y p e)))
    (λ t. let e = true-T (x && y) t in T_true (axes-good p (both_l x y e) (both_r x y e)))

-- ---- the three tests of the code

module _ (a b : ℕ) where
  -- in order, and the first is not too low: the second decides
  pub axis-test : key a ≤ key b → 2 ^ 52 < key a → ltb (key b) (2 ^ 64 - 2 ^ 52) ≡ good_axis a b
  axis-test o h =
      same_test (ltb (key b) (2 ^ 64 - 2 ^ 52)) (good_axis a b)
      (λ t. T_true (axis-holds a b (le-at-most a b o) h (ltb→lt (key b) (2 ^ 64 - 2 ^ 52) t)))
      (λ t. lt→ltb (key b) (2 ^ 64 - 2 ^ 52) (finite-under b (axis-greatest a b (true-T (good_axis a b) t))))

  -- the first is too low
  pub axis-low : key a ≤ 2 ^ 52 → false ≡ good_axis a b
  axis-low h = sym (not-true (good_axis a b) (λ e. let k = finite-above a (axis-least a b e) in omega (arith, h, k)))

  -- reversed
  pub axis-reversed : key b < key a → false ≡ good_axis a b
  axis-reversed h = sym (not-true (good_axis a b) (λ e. let k = at-most-le a b (axis-order a b e) in omega (arith, h, k)))
