-- A pattern is on grid, told by its low 63 bits m. Below the pattern of 1 only m = 0 is; above that of 2 ^ 24 none is; between them it is on grid exactly
-- when the digits below the point are zero, and those are what a shift by the exponent's field less 1011 leaves of 64 bits. Assumes nothing.
use mathlib.Core.Path.{◌≡◌, refl, sym, ap, ◌∙◌}
use mathlib.Core.Bool.{Bool, true, ◌&&◌, and-true}
use Prim.Native.Nat.{ℕ, zero, suc, ◌+◌, ◌-◌, ◌*◌, ◌/◌, ◌%◌, ◌^◌, ◌≤◌, ◌<◌}
use native.Mathlib.Nat.{le_of_eq, zero-add, add_assoc, mul_assoc, mul_right_comm, mul-pos, mul-le-mul_right, mul-mod_left, mul-add-mod_self_right, mod-eq_of_lt, div-add-mod', div-lt_iff_lt-mul, eq_of_mul-eq-mul_right}
use native.Mathlib.Omega.{arith}
use borrow.Author.Tests.{eqb-true, leb-true, eq-eqb, ne_eqb, le-leb}
use lib.Dec.{leb, eqb}
use lib.Pow.{pow-add, pow_pos}
use lib.Ieee.{Float, nan, inf, fin, up, down, binary64, of_bits}
use lib.Ieee.Fits.{down_pos}
use lib.Ieee.Exact.{HasValue}
use lib.Ieee.Nearest.{div_same}
use Rattle.answer.proofs.Both.{not-true, both_l, both_r}
use Rattle.extent.proofs.Tests.{same_test, T_true, true-T}
use Rattle.extent.proofs.Patterns.{bits-value, finite-size}
use Rattle.extent.proofs.Magnitudes.{magnitude, size_of, patterns-same}
use Rattle.grid.specs.Grid.{on_grid_float, on_grid}
use Rattle.grid.proofs.OnGrid.{on-grid-finite}

-- ---- equal fractions p / q and a / c are whole together

whole-too : (p q a c : ℕ) → 0 < q → p * c ≡ a * q → p % q ≡ 0 → a % c ≡ 0
whole-too p q a c h e z = ap (λ (n : ℕ). n % c) multiple ∙ mul-mod_left (p / q) c
  where
    exact : (n r p : ℕ) → n + r ≡ p → r ≡ 0 → p ≡ n
    exact n r p e z = omega arith

    multiple : a ≡ p / q * c
    multiple =
        eq_of_mul-eq-mul_right q h a (p / q * c)
        (sym e ∙ ap (λ (n : ℕ). n * c) (exact (p / q * q) (p % q) p (div-add-mod' p q) z) ∙ mul_right_comm (p / q) q c)

whole_same : (p q a c : ℕ) → 0 < q → 0 < c → p * c ≡ a * q → eqb (p % q) 0 ≡ eqb (a % c) 0
whole_same p q a c h l e =
    same_test (eqb (p % q) 0) (eqb (a % c) 0)
    (λ t. T_true (eq-eqb _ _ (whole-too p q a c h e (eqb-true _ _ (true-T _ t)))))
    (λ t. T_true (eq-eqb _ _ (whole-too a c p q l (sym e) (eqb-true _ _ (true-T _ t)))))

-- ---- by a float's value a / c

abbrev on : ℕ → ℕ → Bool
on a c = eqb (a % c) 0 && leb (a / c) (2 ^ 24)

on_value : (x : Float) (s : Bool) (a c : ℕ) → 0 < c → HasValue x s a c → on_grid_float x ≡ on a c
on_value nan s a c h v = absurd v
on_value (inf t) s a c h v = absurd v
on_value (fin t m e) s a c h v = λ i. whole_same (m * up e) (down e) a c (down_pos e) h v.1 i && leb (div_same (m * up e) (down e) a c (down_pos e) h v.1 i) (2 ^ 24)

-- more than 2 ^ 24 is off grid
on-most : (a c : ℕ) → on a c ≡ true → a ≤ 2 ^ 24 * c
on-most a c g =
    fit (a / c) (a % c) a c (div-add-mod' a c) (eqb-true _ _ (both_l (eqb (a % c) 0) (leb (a / c) (2 ^ 24)) g)) (leb-true _ _ (both_r (eqb (a % c) 0) (leb (a / c) (2 ^ 24)) g))
  where
    fit : (n r a c : ℕ) → n * c + r ≡ a → r ≡ 0 → n ≤ 2 ^ 24 → a ≤ 2 ^ 24 * c
    fit n r a c e z l = let k : n * c ≤ 2 ^ 24 * c = mul-le-mul_right c l in omega arith

-- up to 2 ^ 24 what is whole is on grid
on-within : (a c : ℕ) → 0 < c → a ≤ 2 ^ 24 * c → on a c ≡ eqb (a % c) 0
on-within a c p h = ap (λ (t : Bool). eqb (a % c) 0 && t) (le-leb (a / c) (2 ^ 24) (down-one (a / c) ((div-lt_iff_lt-mul p).1 (more a c p h)))) ∙ and-true (eqb (a % c) 0)
  where
    more : (a c : ℕ) → 0 < c → a ≤ 2 ^ 24 * c → a < suc (2 ^ 24) * c
    more a c p h = omega arith

    down-one : (n : ℕ) → n < suc (2 ^ 24) → n ≤ 2 ^ 24
    down-one n h = omega arith

-- below 1 that is only 0
on-small : (a c : ℕ) → a < c → on a c ≡ eqb a 0
on-small a c h = on-within a c (some a c h) (more a c h) ∙ ap (λ (n : ℕ). eqb n 0) (mod-eq_of_lt h)
  where
    some : (a c : ℕ) → a < c → 0 < c
    some a c h = omega arith

    more : (a c : ℕ) → a < c → a ≤ 2 ^ 24 * c
    more a c h = omega arith

-- ---- by a pattern's low 63 bits m, which stand for sized m units of 2 ^ -1074

abbrev sized : ℕ → ℕ
sized m = size_of (2 ^ 52) m

-- they are in the same order: 1 is 1023 * 2 ^ 52, and 2 ^ 24 is 1047 * 2 ^ 52
small : (m : ℕ) → m < 1023 * 2 ^ 52 → sized m < 2 ^ 1074
small m h = (patterns-same (2 ^ 52) m (1023 * 2 ^ 52) (omega arith)).lt← h

large : (m : ℕ) → 1047 * 2 ^ 52 < m → 2 ^ 24 * 2 ^ 1074 < sized m
large m h = (patterns-same (2 ^ 52) m (1047 * 2 ^ 52) (omega arith)).gt← h

not-large : (m : ℕ) → m ≤ 1047 * 2 ^ 52 → sized m ≤ 2 ^ 24 * 2 ^ 1074
not-large m h = at-most (sized m) (2 ^ 24 * 2 ^ 1074) (λ g. clash m (1047 * 2 ^ 52) h ((patterns-same (2 ^ 52) m (1047 * 2 ^ 52) (omega arith)).gt→ g))
  where
    at-most : (a b : ℕ) → (b < a → ⊥) → a ≤ b
    at-most a b h = omega arith

    clash : (m n : ℕ) → m ≤ n → n < m → ⊥
    clash m n h l = omega arith

nothing : (m : ℕ) → eqb (sized m) 0 ≡ eqb m 0
nothing m =
    let r = patterns-same (2 ^ 52) m 0 (omega arith) in
    same_test (eqb (sized m) 0) (eqb m 0)
    (λ t. T_true (eq-eqb m 0 (none m (sized m) r.za← (eqb-true _ _ (true-T _ t)))))
    (λ t. T_true (eq-eqb (sized m) 0 (none (sized m) m r.za→ (eqb-true _ _ (true-T _ t)))))
  where
    none : (a b : ℕ) → (0 < a → 0 < b) → b ≡ 0 → a ≡ 0
    none zero b p z = refl
    none (suc a) b p z = let h : 0 < b = p (omega arith) in absurd (omega (arith, h, z))

by_size : (b : ℕ) → b % 2 ^ 63 < 2047 * 2 ^ 52 → on_grid b ≡ on (sized (b % 2 ^ 63)) (2 ^ 1074)
unfolding on_grid
by_size b h = on_value (of_bits binary64 b) (leb (2 ^ 63) b) (sized (b % 2 ^ 63)) (2 ^ 1074) (pow_pos 1074) (bits-value binary64 b h)

-- below 1
pub on-grid-small : (b : ℕ) → b % 2 ^ 63 < 1023 * 2 ^ 52 → eqb (b % 2 ^ 63) 0 ≡ on_grid b
on-grid-small b h =
    let m = b % 2 ^ 63 in
    sym (by_size b (omega arith) ∙ on-small (sized m) (2 ^ 1074) (small m h) ∙ nothing m)

-- above 2 ^ 24
pub on-grid-large : (b : ℕ) → 1047 * 2 ^ 52 < b % 2 ^ 63 → eqb (b % 2 ^ 63) 0 ≡ on_grid b
on-grid-large b h =
    let m = b % 2 ^ 63 in
    ne_eqb m 0 (λ z. clash m 0 (omega (arith, h)) (le_of_eq z))
    ∙ sym (not-true (on_grid b) (λ g. clash (sized m) (2 ^ 24 * 2 ^ 1074) (large m h) (on-most (sized m) (2 ^ 1074) (sym (by_size b (finite-size b (on-grid-finite b g))) ∙ g))))
  where
    clash : (x y : ℕ) → y < x → x ≤ y → ⊥
    clash x y h l = omega arith

-- ---- between: P is 2 to the number of digits below the point

-- the digits t with the leading one before them, over P * X, and with a field e before them, over P * S
digits_same : (P X S J t e : ℕ) → 0 < P → 0 < X → 0 < S → eqb ((J * P + t) * X % (X * P)) 0 ≡ eqb ((e * (J * P) + t) * S % (S * P)) 0
digits_same P X S J t e p x s =
    whole_same ((J * P + t) * X) (X * P) (J * P + t) P (mul-pos x p) p (mul_assoc (J * P + t) X P)
    ∙ ap (λ (n : ℕ). eqb n 0) (mul-add-mod_self_right J P t ∙ sym (ap (λ (n : ℕ). (n + t) % P) (sym (mul_assoc e J P)) ∙ mul-add-mod_self_right (e * J) P t))
    ∙ sym (whole_same ((e * (J * P) + t) * S) (S * P) (e * (J * P) + t) P (mul-pos s p) p (mul_assoc (e * (J * P) + t) S P))

-- at 64 bits, k digits being below the point, and j of 52 above it
digits-64 : (j k t e : ℕ) → j + k ≡ 52 → eqb ((2 ^ 52 + t) * 2 ^ (1022 + j) % 2 ^ 1074) 0 ≡ eqb ((e * 2 ^ 52 + t) * 2 ^ (12 + j) % 2 ^ 64) 0
digits-64 j k t e h =
    (λ i. eqb ((part 0 52 (zero-add (j + k) ∙ h) i + t) * 2 ^ (1022 + j) % part 1022 1074 (ap (λ (n : ℕ). 1022 + n) h) i) 0)
    ∙ digits_same (2 ^ k) (2 ^ (1022 + j)) (2 ^ (12 + j)) (2 ^ (0 + j)) t e (pow_pos k) (pow_pos (1022 + j)) (pow_pos (12 + j))
    ∙ sym (λ i. eqb ((e * part 0 52 (zero-add (j + k) ∙ h) i + t) * 2 ^ (12 + j) % part 12 64 (ap (λ (n : ℕ). 12 + n) h) i) 0)
  where
    part : (a n : ℕ) → a + (j + k) ≡ n → 2 ^ n ≡ 2 ^ (a + j) * 2 ^ k
    part a n e = ap (λ (x : ℕ). 2 ^ x) (sym e ∙ sym (add_assoc a j k)) ∙ pow-add 2 (a + j) k

-- by the field e
field-64 : (e t : ℕ) → 1023 ≤ e → e ≤ 1047 → eqb (magnitude (2 ^ 52) e t % 2 ^ 1074) 0 ≡ eqb ((e * 2 ^ 52 + t) * 2 ^ (e - 1011) % 2 ^ 64) 0
field-64 e t h l =
    ap (λ (n : ℕ). eqb (magnitude (2 ^ 52) n t % 2 ^ 1074) 0) above
    ∙ digits-64 (e - 1023) (1075 - e) t e (omega arith)
    ∙ ap (λ (n : ℕ). eqb ((e * 2 ^ 52 + t) * 2 ^ n % 2 ^ 64) 0) below
  where
    above : e ≡ suc (1022 + (e - 1023))
    above = omega arith

    below : 12 + (e - 1023) ≡ e - 1011
    below = omega arith

pub on-grid-between : (b : ℕ) → 1023 * 2 ^ 52 ≤ b % 2 ^ 63 → b % 2 ^ 63 ≤ 1047 * 2 ^ 52 → eqb (b % 2 ^ 63 * 2 ^ (b % 2 ^ 63 / 2 ^ 52 - 1011) % 2 ^ 64) 0 ≡ on_grid b
on-grid-between b h l =
    let m = b % 2 ^ 63 in
    sym (by_size b (omega arith)
    ∙ on-within (sized m) (2 ^ 1074) (pow_pos 1074) (not-large m l)
    ∙ field-64 (m / 2 ^ 52) (m % 2 ^ 52) (omega arith) (omega arith)
    ∙ ap (λ (n : ℕ). eqb (n * 2 ^ (m / 2 ^ 52 - 1011) % 2 ^ 64) 0) (div-add-mod' m (2 ^ 52)))
