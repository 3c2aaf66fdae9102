-- The float of a finite pattern: its value, its order by sign and low bits, and the way back to the pattern. Assumes nothing.
use Rattle.std.proofs.Common.{◌≡◌, ℕ, zero, suc, ◌+◌, ◌-◌, ◌*◌, ◌/◌, ◌%◌, ◌^◌, ◌<◌, ◌≤◌, Bool, true, false, cond, not, T, eqb, ltb, leb, sym, ◌∙◌, subst, div-lt_iff_lt-mul, mul-one, arith, ltb→lt, pow_pos, ltb-false, ltb-true}
use native.Mathlib.Nat.{mod-mod_of_dvd, dvd-mul_right}
use lib.Dec.{not_T}
use lib.Ieee.{Float, nan, inf, fin, Format, binary64, prec, low, odd, hid, ones, top, below, level, lt, eq, is_nan, nan_bits, of_fields, of_bits, to_bits}
use lib.Ieee.Scale as Scale
use lib.Ieee.Exact.{HasValue, odd_sign}
use lib.Ieee.Bits.{cond_no, to_bits-of_bits, nan_bits_is, nan_bits_above}
use Rattle.extent.specs.Rank.{finite}
use Rattle.extent.proofs.Tests.{lt→neqb}
use Rattle.extent.proofs.Fractions.{Same, below-same, level-same, lt-values, eq-values}
use Rattle.extent.proofs.Magnitudes.{magnitude, size_of, patterns-same}

-- the value of a sign, an exponent's field x and digits t
fields_value : (f : Format) (s : Bool) (x t : ℕ) → x < ones f → HasValue (of_fields f s x t) s (magnitude (hid f) x t) (2 ^ low f)
unfolding of_fields
fields_value f s zero t h = subst (λ (n : ℕ). HasValue (odd (prec f) s t 0 (low f)) s n (2 ^ low f)) (mul-one t) (odd_sign (prec f) s t 0 (low f))
fields_value f s (suc x) t h =
    subst (λ (v : Float). HasValue v s ((hid f + t) * 2 ^ x) (2 ^ low f))
    (sym (cond_no (eqb (suc x) (ones f)) (cond (eqb t 0) (inf s) nan) (odd (prec f) s (hid f + t) x (low f)) (lt→neqb (suc x) (ones f) h)))
    (odd_sign (prec f) s (hid f + t) x (low f))

-- ---- a finite pattern's value, in units of the smallest

abbrev pub Finite : Format → ℕ → Type 0
Finite f b = b % top f < ones f * hid f

pub bits-value : (f : Format) (b : ℕ) → Finite f b → HasValue (of_bits f b) (leb (top f) b) (size_of (hid f) (b % top f)) (2 ^ low f)
unfolding of_bits
bits-value f b h =
    subst (λ (t : ℕ). HasValue (of_fields f (leb (top f) b) (b % top f / hid f) (b % hid f)) (leb (top f) b) (magnitude (hid f) (b % top f / hid f) t) (2 ^ low f))
    (sym (mod-mod_of_dvd (hid f) b (dvd-mul_right (hid f) (suc (ones f)))))
    (fields_value f (leb (top f) b) (b % top f / hid f) (b % hid f) ((div-lt_iff_lt-mul (pow_pos (prec f - 1))).1 h))

-- ---- IEEE's order of two finite patterns, by their signs and their low bits

abbrev pub sign : Format → ℕ → Bool
sign f b = leb (top f) b

abbrev pub size : Format → ℕ → ℕ
size f b = b % top f

-- the low bits stand in the order of the values
sizes-same : (f : Format) (a b : ℕ) → Same (size_of (hid f) (size f a)) (size_of (hid f) (size f b)) (size f a) (size f b)
sizes-same f a b = patterns-same (hid f) (size f a) (size f b) (pow_pos (prec f - 1))

pub lt-bits : (f : Format) (a b : ℕ) → Finite f a → Finite f b → lt (of_bits f a) (of_bits f b) ≡ below (sign f a) (size f a) (sign f b) (size f b)
lt-bits f a b p q =
    lt-values (of_bits f a) (of_bits f b) (sign f a) (sign f b) _ _ (2 ^ low f) (pow_pos (low f)) (bits-value f a p) (bits-value f b q)
    ∙ below-same (sign f a) (sign f b) _ _ (size f a) (size f b) (sizes-same f a b)

pub eq-bits : (f : Format) (a b : ℕ) → Finite f a → Finite f b → eq (of_bits f a) (of_bits f b) ≡ level (sign f a) (size f a) (sign f b) (size f b)
eq-bits f a b p q =
    eq-values (of_bits f a) (of_bits f b) (sign f a) (sign f b) _ _ (2 ^ low f) (pow_pos (low f)) (bits-value f a p) (bits-value f b q)
    ∙ level-same (sign f a) (sign f b) _ _ (size f a) (size f b) (sizes-same f a b)

-- ---- at 64 bits

-- the low 63 bits of a finite pattern
pub finite-size : (b : ℕ) → finite b ≡ true → b % 2 ^ 63 < 2047 * 2 ^ 52
unfolding finite
finite-size b e = let h : b / 2 ^ 52 % 2048 < 2047 = ltb-true _ _ e in omega arith

pub not-finite-size : (b : ℕ) → finite b ≡ false → 2047 * 2 ^ 52 ≤ b % 2 ^ 63
unfolding finite
not-finite-size b e = let h : 2047 ≤ b / 2 ^ 52 % 2048 = ltb-false _ _ e in omega arith

-- it is no NaN's
pub no-nan-bits : (b : ℕ) → finite b ≡ true → T (not (nan_bits binary64 b))
no-nan-bits b p =
    subst (λ (x : Bool). T (not x)) (sym (nan_bits_above binary64 b))
    (not_T (ltb (2047 * 2 ^ 52) (b % 2 ^ 63)) (λ t. clash (b % 2 ^ 63) (2047 * 2 ^ 52) (finite-size b p) (ltb→lt (2047 * 2 ^ 52) (b % 2 ^ 63) t)))
  where
    clash : (x y : ℕ) → x < y → y < x → ⊥
    clash x y h k = omega arith

pub no_nan : (x : Float) → finite (to_bits binary64 x) ≡ true → T (not (is_nan x))
unfolding to_bits is_nan finite
no_nan nan e = absurd (subst T (sym e) tt)
no_nan (inf s) e = tt
no_nan (fin s m e) h = tt

-- the pattern of the float of a pattern
pub bits_back : (b : ℕ) → b < 2 ^ 64 → finite b ≡ true → to_bits binary64 (of_bits binary64 b) ≡ b
bits_back b h p = to_bits-of_bits binary64 b h (subst (λ (x : Bool). T (not x)) (nan_bits_is binary64 b) (no-nan-bits b p))

-- a pattern is finite exactly when its float is
has-finite : (x : Float) (s : Bool) (a c : ℕ) → HasValue x s a c → T (Scale.finite x)
has-finite nan s a c v = v
has-finite (inf t) s a c v = v
has-finite (fin t m e) s a c v = tt

pub bits-finite : (b : ℕ) → finite b ≡ true → T (Scale.finite (of_bits binary64 b))
bits-finite b p = has-finite (of_bits binary64 b) (leb (2 ^ 63) b) (size_of (2 ^ 52) (b % 2 ^ 63)) (2 ^ 1074) (bits-value binary64 b (finite-size b p))

pub bits-not-finite : (b : ℕ) → finite b ≡ false → T (not (Scale.finite (of_bits binary64 b)))
unfolding of_bits
bits-not-finite b h = go (b % 2 ^ 63 / 2 ^ 52) (full (not-finite-size b h))
  where
    full : 2047 * 2 ^ 52 ≤ b % 2 ^ 63 → b % 2 ^ 63 / 2 ^ 52 ≡ 2047
    full l = omega arith

    ends : (s t : Bool) → T (not (Scale.finite (cond t (inf s) nan)))
    ends s true = tt
    ends s false = tt

    go : (x : ℕ) → x ≡ 2047 → T (not (Scale.finite (of_fields binary64 (leb (2 ^ 63) b) x (b % 2 ^ 52))))
    go x e = subst (λ (n : ℕ). T (not (Scale.finite (of_fields binary64 (leb (2 ^ 63) b) n (b % 2 ^ 52))))) (sym e) (unfold of_fields in ends (leb (2 ^ 63) b) (eqb (b % 2 ^ 52) 0))
