-- The order of values. Assumes nothing.
use Rattle.std.proofs.Common.{◌≡◌, ℕ, ◌^◌, true, false, T, ℤ, pos, negsuc, sym, refl, ap, ◌∙◌, subst, le_trans, le_of_eq, le_refl, lt_of_lt_of_le, lt_of_le_of_lt, le_of_lt, arith, eq-eqb, eqb-true}
use Rattle.answer.proofs.Both.{not-true}
use Rattle.extent.specs.Rank.{rank, key, eq_z, at_most, below, same_value}
use Rattle.extent.proofs.Keys.{at-most-le, le-at-most, below-lt, lt-below, not-below-le, same-eq, eq-same}

-- ---- at most, and below

pub at-most-refl : (a : ℕ) → at_most a a ≡ true
at-most-refl a = le-at-most a a (le_refl (key a))

pub at-most-trans : (a b c : ℕ) → at_most a b ≡ true → at_most b c ≡ true → at_most a c ≡ true
at-most-trans a b c p q = le-at-most a c (le_trans (at-most-le a b p) (at-most-le b c q))

pub below-at-most : (a b : ℕ) → below a b ≡ true → at_most a b ≡ true
below-at-most a b p = le-at-most a b (le_of_lt (below-lt a b p))

pub at-most-below : (a b c : ℕ) → at_most a b ≡ true → below b c ≡ true → below a c ≡ true
at-most-below a b c p q = lt-below a c (lt_of_le_of_lt (at-most-le a b p) (below-lt b c q))

pub below-trans : (a b c : ℕ) → below a b ≡ true → at_most b c ≡ true → below a c ≡ true
below-trans a b c p q = lt-below a c (lt_of_lt_of_le (below-lt a b p) (at-most-le b c q))

pub below-not-itself : (a : ℕ) → below a a ≡ true → ⊥
below-not-itself a e = let h = below-lt a a e in omega arith

-- at most is not above
pub not-below : (a b : ℕ) → below a b ≡ false → at_most b a ≡ true
not-below a b e = le-at-most b a (not-below-le a b e)

-- what is below is not the same
pub below-not-same : (a b : ℕ) → below a b ≡ true → same_value a b ≡ false
below-not-same a b e = not-true (same_value a b) (λ g. let h = below-lt a b e in let k = same-eq a b g in omega arith)

-- the same value is at most
pub same-at-most : (a b : ℕ) → same_value a b ≡ true → at_most a b ≡ true
same-at-most a b e = le-at-most a b (le_of_eq (same-eq a b e))

pub same-sym : (a b : ℕ) → same_value a b ≡ true → same_value b a ≡ true
same-sym a b e = eq-same b a (sym (same-eq a b e))

-- ---- the same value is the same rank

eq_z-true : (a b : ℤ) → eq_z a b ≡ true → a ≡ b
eq_z-true (pos a) (pos b) e = ap pos (eqb-true a b e)
eq_z-true (pos a) (negsuc b) e = absurd (subst T (sym e) tt)
eq_z-true (negsuc a) (pos b) e = absurd (subst T (sym e) tt)
eq_z-true (negsuc a) (negsuc b) e = ap negsuc (eqb-true a b e)

eq_z-refl : (a : ℤ) → eq_z a a ≡ true
eq_z-refl (pos a) = eq-eqb a a refl
eq_z-refl (negsuc a) = eq-eqb a a refl

pub same_rank : (a b : ℕ) → same_value a b ≡ true → rank a ≡ rank b
unfolding same_value
same_rank a b e = eq_z-true (rank a) (rank b) e

pub rank_same : (a b : ℕ) → rank a ≡ rank b → same_value a b ≡ true
unfolding same_value
rank_same a b e = ap (eq_z (rank a)) (sym e) ∙ eq_z-refl (rank a)

-- both zeros are equal: 0 and 2 ^ 63 are their patterns
pub zeros : rank 0 ≡ rank (2 ^ 63)
unfolding rank
zeros = refl

pub zeros-same : same_value 0 (2 ^ 63) ≡ true
zeros-same = rank_same 0 (2 ^ 63) zeros
