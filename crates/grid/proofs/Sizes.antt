-- Sizes of whole numbers: of a sum, a difference and a product, and when they fit 64 bits. Assumes nothing.
use mathlib.Core.Path.{◌≡◌, refl, ap, ◌∙◌}
use Prim.Native.Nat.{ℕ, zero, suc, ◌+◌, ◌-◌, ◌*◌, ◌^◌, ◌≤◌, ◌<◌}
use native.Mathlib.Nat.{le_trans, le_of_eq, le_refl, lt_of_le_of_lt, mul-le-mul}
use native.Mathlib.Omega.{arith}
use mathlib.Core.Bool.{Bool, true, false, cond}
use lib.Dec.{T, ltb, ltb→lt}
use lib.IntN.{ℤ, pos, negsuc, neg_ℤ, nat_abs, sub_ℕ, ◌+ℤ◌, ◌-ℤ◌, ◌*ℤ◌}
use lib.Signed.{mag}
use mir.Syntax.{w64}
use mir.Val.{SFits, to_z, of_z}
use mir.ValLaws.{to_z-of_z}
use Rattle.extent.specs.Rank.{signed}

-- ---- of a sign and a size, an opposite, a product, a sum

pub abs-signed : (s : Bool) (n : ℕ) → nat_abs (signed s n) ≡ n
abs-signed false n = refl
abs-signed true zero = refl
abs-signed true (suc n) = refl

abs_neg : (z : ℤ) → nat_abs (neg_ℤ z) ≡ nat_abs z
abs_neg (pos zero) = refl
abs_neg (pos (suc n)) = refl
abs_neg (negsuc n) = refl

abs-mul : (a b : ℤ) → nat_abs (a *ℤ b) ≡ nat_abs a * nat_abs b
abs-mul (pos a) (pos b) = refl
abs-mul (pos a) (negsuc b) = abs_neg (pos (a * suc b))
abs-mul (negsuc a) (pos b) = abs_neg (pos (suc a * b))
abs-mul (negsuc a) (negsuc b) = refl

abs-sub : (a c : ℕ) → nat_abs (sub_ℕ a c) ≤ a + c
abs-sub a c = go (ltb a c) (ltb→lt a c)
  where
    go : (b : Bool) → (T b → a < c) → nat_abs (cond b (negsuc (c - suc a)) (pos (a - c))) ≤ a + c
    go true h = let l : a < c = h tt in omega arith
    go false h = omega arith

abs-add : (a b : ℤ) → nat_abs (a +ℤ b) ≤ nat_abs a + nat_abs b
abs-add (pos a) (pos b) = le_refl (a + b)
abs-add (pos a) (negsuc b) = abs-sub a (suc b)
abs-add (negsuc a) (pos b) = le_trans (abs-sub b (suc a)) (omega arith)
abs-add (negsuc a) (negsuc b) = omega arith

-- ---- within a bound

pub mul-within : (k : ℕ) (a b : ℤ) → nat_abs a ≤ k → nat_abs b ≤ k → nat_abs (a *ℤ b) ≤ k * k
mul-within k a b h l = le_trans (le_of_eq (abs-mul a b)) (mul-le-mul h l)

pub add-within : (k j : ℕ) (a b : ℤ) → nat_abs a ≤ k → nat_abs b ≤ j → nat_abs (a +ℤ b) ≤ k + j
add-within k j a b h l = fit (nat_abs (a +ℤ b)) (nat_abs a) (nat_abs b) (abs-add a b) h l
  where
    fit : (z x y : ℕ) → z ≤ x + y → x ≤ k → y ≤ j → z ≤ k + j
    fit z x y h p q = omega arith

pub sub_within : (k j : ℕ) (a b : ℤ) → nat_abs a ≤ k → nat_abs b ≤ j → nat_abs (a -ℤ b) ≤ k + j
sub_within k j a b h l = add-within k j a (neg_ℤ b) h (le_trans (le_of_eq (abs_neg b)) l)

-- ---- 64 bits

mag-within : (z : ℤ) → mag z ≤ nat_abs z
mag-within (pos n) = le_refl n
mag-within (negsuc n) = omega arith

-- what is within k fits, if k is below 2 ^ 63
pub fits-64 : (k : ℕ) (z : ℤ) → nat_abs z ≤ k → k < 2 ^ 63 → SFits w64 z
fits-64 k z h l = record { sfits = lt_of_le_of_lt (mag-within z) (lt_of_le_of_lt h l) }

-- and is read back from its bits; y is a known whole number
pub back-64 : (k : ℕ) (z y : ℤ) → z ≡ y → nat_abs y ≤ k → k < 2 ^ 63 → to_z w64 (of_z w64 z) ≡ y
back-64 k z y e h l = ap (λ (x : ℤ). to_z w64 (of_z w64 x)) e ∙ to_z-of_z w64 y (fits-64 k y h l)
