-- A float on grid: it is finite, within 2 ^ 24, and, but at -0, the cast to 64 bits is allowed and is its whole number. Assumes nothing.
use mathlib.Core.Path.{◌≡◌, refl, ap, ◌∙◌}
use mathlib.Core.Bool.{Bool, true, false, not, ◌&&◌, cond}
use Prim.Native.Nat.{ℕ, ◌+◌, ◌-◌, ◌*◌, ◌/◌, ◌%◌, ◌^◌, ◌≤◌}
use native.Mathlib.Nat.{le_trans, le_of_eq, zero-mul, zero-div}
use native.Mathlib.Omega.{arith}
use borrow.Author.Tests.{eqb-true, leb-true, le-leb, lt-ltb}
use lib.Dec.{T, leb, ltb, eqb}
use lib.IntN.{nat_abs}
use lib.Ieee.{Float, nan, inf, fin, binary64, up, down, span, climb, size, whole, in_signed, to_signed, to_bits}
use lib.Ieee.Scale.{finite}
use lib.Ieee.Casts.{to_signed_cut}
use Rattle.answer.proofs.Both.{both, both_l, both_r}
use Rattle.extent.proofs.Tests.{T_true}
use Rattle.grid.specs.Grid.{on_grid_float, whole_of_float}
use Rattle.grid.proofs.Sizes.{abs-signed}

-- infinities and NaNs are off grid
pub off-not-finite : (x : Float) → T (not (finite x)) → on_grid_float x ≡ false
off-not-finite nan h = refl
off-not-finite (inf s) h = refl
off-not-finite (fin s m e) h = absurd h

-- the size, r being what is left over and c the whole part
rest-none : (r c : ℕ) → (eqb r 0 && leb c (2 ^ 24)) ≡ true → eqb r 0 ≡ true
rest-none r c g = both_l (eqb r 0) (leb c (2 ^ 24)) g

part-within : (r c : ℕ) → (eqb r 0 && leb c (2 ^ 24)) ≡ true → c ≤ 2 ^ 24
part-within r c g = leb-true _ _ (both_r (eqb r 0) (leb c (2 ^ 24)) g)

pub whole-within : (x : Float) → on_grid_float x ≡ true → nat_abs (whole_of_float x) ≤ 2 ^ 24
whole-within nan g = absurd (T_true g)
whole-within (inf s) g = absurd (T_true g)
whole-within (fin s m e) g = le_trans (le_of_eq (abs-signed s (m * up e / down e))) (part-within (m * up e % down e) (m * up e / down e) g)

-- ---- -0

abbrev pub minus_zero : Float → Bool
minus_zero nan = false
minus_zero (inf s) = false
minus_zero (fin s m e) = s && eqb m 0

-- its pattern has the sign bit alone
pub minus-zero-bits : (x : Float) → minus_zero x ≡ true → to_bits binary64 x ≡ 2 ^ 63
unfolding to_bits size span climb
minus-zero-bits nan z = absurd (T_true z)
minus-zero-bits (inf s) z = absurd (T_true z)
minus-zero-bits (fin false m e) z = absurd (T_true z)
minus-zero-bits (fin true m e) z = ap (λ (n : ℕ). 2 ^ 63 + (size n - 53) * 2 ^ 52 + n / 2 ^ (size n - 53)) none
  where
    none : m * up e * 2 ^ 1074 / down e ≡ 0
    none =
        ap (λ (n : ℕ). n * up e * 2 ^ 1074 / down e) (eqb-true m 0 z)
        ∙ ap (λ (n : ℕ). n * 2 ^ 1074 / down e) (zero-mul (up e))
        ∙ ap (λ (n : ℕ). n / down e) (zero-mul (2 ^ 1074))
        ∙ zero-div (down e)

-- ---- the cast

pub cast-allowed : (x : Float) → on_grid_float x ≡ true → minus_zero x ≡ false → T (in_signed binary64 63 x)
unfolding in_signed whole
cast-allowed nan g z = absurd (T_true g)
cast-allowed (inf s) g z = absurd (T_true g)
cast-allowed (fin s m e) g z =
    let r = m * up e % down e in
    let c = m * up e / down e in
    let l : c ≤ 2 ^ 24 = part-within r c g in
    T_true (both (both (both (rest-none r c g) (le-leb c (2 ^ 53) (far c l))) (ap not z)) (in-range s c l))
  where
    far : (c : ℕ) → c ≤ 2 ^ 24 → c ≤ 2 ^ 53
    far c l = omega arith

    in-range : (s : Bool) (c : ℕ) → c ≤ 2 ^ 24 → cond s (leb c (2 ^ 63)) (ltb c (2 ^ 63)) ≡ true
    in-range true c l = le-leb c (2 ^ 63) (omega arith)
    in-range false c l = lt-ltb c (2 ^ 63) (omega arith)

pub cast-whole : (x : Float) → T (in_signed binary64 63 x) → to_signed 63 x ≡ whole_of_float x
unfolding in_signed
cast-whole nan t = absurd t
cast-whole (inf s) t = absurd t
cast-whole (fin false m e) t = to_signed_cut binary64 63 false m e t
cast-whole (fin true m e) t = to_signed_cut binary64 63 true m e t
