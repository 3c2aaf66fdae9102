-- A float is finite exactly when it lies between the least and the greatest of the finite ones: an infinity lies outside, and a NaN nowhere.
-- Assumes nothing.
use Rattle.std.proofs.Common.{◌≡◌, ℕ, ◌+◌, ◌-◌, ◌*◌, ◌%◌, ◌^◌, ◌<◌, ◌≤◌, Bool, true, false, not, T, leb, refl, ◌∙◌, subst, arith}
use lib.Ieee.{Float, nan, inf, fin, binary64, lt, eq, le, fits, of_bits, to_bits}
use lib.Ieee.Scale as Scale
use lib.Ieee.Bits.{of_bits-to_bits}
use Rattle.answer.proofs.Both.{no_both}
use Rattle.extent.specs.Rank.{finite, key_of, key, at_most}
use Rattle.extent.proofs.Patterns.{finite-size, bits-finite, bits-not-finite}
use Rattle.extent.proofs.Keys.{le-at-most}
use Rattle.extent.proofs.Order.{le-rank}

-- the patterns of the two
abbrev pub least_bits : ℕ
least_bits = 18442240474082181119

abbrev pub greatest_bits : ℕ
greatest_bits = 9218868437227405311

pub least-finite : finite least_bits ≡ true
unfolding finite
least-finite = refl

pub greatest-finite : finite greatest_bits ≡ true
unfolding finite
greatest-finite = refl

-- ---- finite patterns lie between them
to-greatest : (b : ℕ) → finite b ≡ true → at_most b greatest_bits ≡ true
unfolding key
to-greatest b e = le-at-most b greatest_bits (go (leb (2 ^ 63) b) (b % 2 ^ 63) (finite-size b e))
  where
    go : (s : Bool) (n : ℕ) → n < 2047 * 2 ^ 52 → key_of (2 ^ 63) s n ≤ 2 ^ 63 + (2047 * 2 ^ 52 - 1)
    go false n h = omega arith
    go true n h = omega arith

from-least : (b : ℕ) → finite b ≡ true → at_most least_bits b ≡ true
unfolding key
from-least b e = le-at-most least_bits b (go (leb (2 ^ 63) b) (b % 2 ^ 63) (finite-size b e))
  where
    go : (s : Bool) (n : ℕ) → n < 2047 * 2 ^ 52 → 2 ^ 63 - (2047 * 2 ^ 52 - 1) ≤ key_of (2 ^ 63) s n
    go false n h = omega arith
    go true n h = omega arith

-- ---- a float that is not finite lies outside

-- plus infinity is not at most a finite one, and no finite one is at most minus infinity
not-to : (y : Float) → T (Scale.finite y) → le (inf false) y ≡ false
unfolding le lt eq
not-to nan t = absurd t
not-to (inf s) t = absurd t
not-to (fin s m e) t = refl

not-from : (y : Float) → T (Scale.finite y) → le y (inf true) ≡ false
unfolding le lt eq
not-from nan t = absurd t
not-from (inf s) t = absurd t
not-from (fin s m e) t = refl

not_within : (x l g : Float) → T (Scale.finite l) → T (Scale.finite g) → T (not (Scale.finite x)) → le l x ≡ true → le x g ≡ false
not_within nan l g u v t e = unfold le lt eq in refl
not_within (inf false) l g u v t e = not-to g v
not_within (inf true) l g u v t e = absurd (no_both (not-from l u) e)
not_within (fin s m k) l g u v t e = absurd t

-- ---- the two tests
module _ (x : Float) (f : T (fits binary64 x)) where
  back : of_bits binary64 (to_bits binary64 x) ≡ x
  back = of_bits-to_bits binary64 x f

  least-le : finite (to_bits binary64 x) ≡ true → le (of_bits binary64 least_bits) x ≡ true
  least-le e = subst (λ (z : Float). le (of_bits binary64 least_bits) z ≡ true) back (le-rank least_bits (to_bits binary64 x) least-finite e ∙ from-least (to_bits binary64 x) e)

  greatest-le : finite (to_bits binary64 x) ≡ true → le x (of_bits binary64 greatest_bits) ≡ true
  greatest-le e = subst (λ (z : Float). le z (of_bits binary64 greatest_bits) ≡ true) back (le-rank (to_bits binary64 x) greatest_bits e greatest-finite ∙ to-greatest (to_bits binary64 x) e)

  -- the second, where the first passed
  pub within-test : le (of_bits binary64 least_bits) x ≡ true → le x (of_bits binary64 greatest_bits) ≡ finite (to_bits binary64 x)
  within-test h = go (finite (to_bits binary64 x)) refl
    where
      go : (t : Bool) → finite (to_bits binary64 x) ≡ t → le x (of_bits binary64 greatest_bits) ≡ t
      go true e = greatest-le e
      go false e =
          not_within x (of_bits binary64 least_bits) (of_bits binary64 greatest_bits) (bits-finite least_bits least-finite) (bits-finite greatest_bits greatest-finite)
          (subst (λ (z : Float). T (not (Scale.finite z))) back (bits-not-finite (to_bits binary64 x) e)) h

  -- the first failed
  pub outside-test : le (of_bits binary64 least_bits) x ≡ false → false ≡ finite (to_bits binary64 x)
  outside-test h = go (finite (to_bits binary64 x)) refl
    where
      go : (t : Bool) → finite (to_bits binary64 x) ≡ t → false ≡ t
      go true e = absurd (no_both h (least-le e))
      go false e = refl
