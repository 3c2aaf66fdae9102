-- What an exponent's field and digits stand for, in units of the smallest value, grows with the pattern without its sign. h is 2 to the number of
-- digits. Assumes nothing.
use Rattle.std.proofs.Common.{◌≡◌, ℕ, zero, suc, ◌+◌, ◌*◌, ◌/◌, ◌%◌, ◌^◌, ◌<◌, ◌≤◌, ◌⊎◌, sym, ap, ◌∙◌, subst, inl, inr, le_trans, le_of_eq, lt_of_lt_of_le, le_of_lt, lt_irrefl, mul-le-mul_right, mod-lt, mul_assoc, eq-or-lt_of_le, mul-le-mul_left, mul-lt-mul_of_pos_right, lt_of_not-le, div-add-mod', mul-one, arith, pow_pos, pow_mono}
use native.Mathlib.Nat.{pow-succ', zero-div, zero-mod}
use lib.Ieee.Nearest.{div_mono}
use Rattle.extent.proofs.Tests.{not-gt}
use Rattle.extent.proofs.Fractions.{Same}

-- an exponent's field and digits t: the field 0 stands for t, the field x + 1 for h + t, moved up by x bits
abbrev pub magnitude : ℕ → ℕ → ℕ → ℕ
magnitude h zero t = t
magnitude h (suc x) t = (h + t) * 2 ^ x

-- it grows with the digits
digits-grow : (h x t t' : ℕ) → t < t' → magnitude h x t < magnitude h x t'
digits-grow h zero t t' l = l
digits-grow h (suc x) t t' l = mul-lt-mul_of_pos_right (more h t t' l) (pow_pos x)
  where
    more : (h t t' : ℕ) → t < t' → h + t < h + t'
    more h t t' l = omega arith

-- a field x + 1 is at least h moved up by x bits, and that is at least h
at_least : (h x t : ℕ) → h * 2 ^ x ≤ magnitude h (suc x) t
at_least h x t = mul-le-mul_right (2 ^ x) (le-more h t)
  where
    le-more : (h t : ℕ) → h ≤ h + t
    le-more h t = omega arith

one_up : (h x : ℕ) → h ≤ h * 2 ^ x
one_up h x = le_trans (le_of_eq (sym (mul-one h))) (mul-le-mul_left h (pow_pos x))

-- and with the field, whatever the digits
field-grow : (h x x' t t' : ℕ) → t < h → x < x' → magnitude h x t < magnitude h x' t'
field-grow h x zero t t' H l = absurd (no x l)
  where
    no : (x : ℕ) → x < 0 → ⊥
    no x l = omega arith
field-grow h zero (suc x') t t' H l = lt_of_lt_of_le H (le_trans (one_up h x') (at_least h x' t'))
field-grow h (suc x) (suc x') t t' H l =
    lt_of_lt_of_le (mul-lt-mul_of_pos_right (twice h t H) (pow_pos x))
    (le_trans (le_of_eq (mul_assoc h 2 (2 ^ x) ∙ ap (λ (y : ℕ). h * y) (sym (pow-succ' 2 x))))
    (le_trans (mul-le-mul_left h (pow_mono (down' x x' l))) (at_least h x' t')))
  where
    twice : (h t : ℕ) → t < h → h + t < h * 2
    twice h t l = omega arith

    down' : (x x' : ℕ) → suc x < suc x' → suc x ≤ x'
    down' x x' l = omega arith

-- what a pattern without its sign, n, stands for
abbrev pub size_of : ℕ → ℕ → ℕ
size_of h n = magnitude h (n / h) (n % h)

-- of two patterns the lesser has the lesser field, or the same field and the lesser digits
rest : (q h n k r u : ℕ) → q * h + r ≡ n → q * h + u ≡ k → n < k → r < u
rest q h n k r u e g l = less (q * h) n k r u e g l
  where
    less : (p n k r u : ℕ) → p + r ≡ n → p + u ≡ k → n < k → r < u
    less p n k r u e g l = omega arith

split : (h n k : ℕ) → 0 < h → n < k → ((n / h ≡ k / h) × (n % h < k % h)) ⊎ (n / h < k / h)
split h n k H l =
    elim (eq-or-lt_of_le (div_mono n h k h H H (mul-le-mul_right h (le_of_lt l)))) [
      | inl e ↦ inl (e, rest (k / h) h n k (n % h) (k % h) (ap (λ (x : ℕ). x * h + n % h) (sym e) ∙ div-add-mod' n h) (div-add-mod' k h) l)
      | inr m ↦ inr m
    ]

-- so it grows with the pattern, and only so
grows : (h n k : ℕ) → 0 < h → n < k → size_of h n < size_of h k
grows h n k H l =
    elim (split h n k H l) [
      | inl w ↦ subst (λ (x : ℕ). magnitude h x (n % h) < size_of h k) (sym w.0) (digits-grow h (k / h) (n % h) (k % h) w.1)
      | inr m ↦ field-grow h (n / h) (k / h) (n % h) (k % h) (mod-lt n H) m
    ]

grows-only : (h n k : ℕ) → 0 < h → size_of h n < size_of h k → n < k
grows-only h n k H l =
    lt_of_not-le (λ (g : k ≤ n). elim (eq-or-lt_of_le g) [
      | inl e ↦ not-gt (size_of h k) (size_of h n) (ap (size_of h) e) l
      | inr m ↦ lt_irrefl (size_of h n) (lt_of_lt_of_le l (le_of_lt (grows h k n H m)))
    ])

size-zero : (h : ℕ) → size_of h 0 ≡ 0
size-zero h = ap (λ (x : ℕ). magnitude h x (0 % h)) (zero-div h) ∙ zero-mod h

-- patterns and what they stand for are in the same order
pub patterns-same : (h n k : ℕ) → 0 < h → Same (size_of h n) (size_of h k) n k
patterns-same h n k H = record {
  lt→ = grows-only h n k H;
  lt← = grows h n k H;
  gt→ = grows-only h k n H;
  gt← = grows h k n H;
  za→ = λ p. grows-only h 0 n H (subst (λ (x : ℕ). x < size_of h n) (sym (size-zero h)) p);
  za← = λ p. subst (λ (x : ℕ). x < size_of h n) (size-zero h) (grows h 0 n H p);
  zb→ = λ p. grows-only h 0 k H (subst (λ (x : ℕ). x < size_of h k) (sym (size-zero h)) p);
  zb← = λ p. subst (λ (x : ℕ). x < size_of h k) (size-zero h) (grows h 0 k H p);
}
