-- Shown here: the fewest digits that hold a number of 64 bits are its decimal, which takes at most 20. Nothing is assumed.
use Prim.Native.Nat.{ℕ, zero, suc, ◌+◌, ◌-◌, ◌*◌, ◌/◌, ◌%◌, ◌^◌, ◌≤◌, ◌<◌}
use mathlib.Core.Path.{◌≡◌, refl, sym, ap, ap₂, ◌∙◌}
use mathlib.Core.Bool.{Bool, true, false, cond}
use mathlib.Core.List.{List, [], ◌∷◌, ◌++◌}
use native.Mathlib.Nat.{one-le-pow, zero-lt-suc, pow-le-pow_right, mod-eq_of_lt}
use native.Mathlib.Numerals.{unary_clauses}
use native.Mathlib.Omega.{arith}
use borrow.Author.Tests.{lt-ltb, le-ltb, leb-true, leb-false}
use lib.ListN.{length, length-append, take}
use lib.Dec.{ltb, leb}
use Rattle.io.specs.Digits.{last_digits, hex_digit_ascii, IsDigitCount}
use Rattle.text.specs.Decimal.{digits_of, decimal}

-- a number below ten is its one digit
digits-one : (m n : ℕ) → n < 10 → digits_of (suc m) n ≡ (48 + n) ∷ []
unfolding digits_of
digits-one m n h = ap (λ (b : Bool). cond b ((48 + n) ∷ []) (digits_of m (n / 10) ++ ((48 + n % 10) ∷ []))) (lt-ltb n 10 h)

-- any other has digits before its last one
digits_more : (m n : ℕ) → 10 ≤ n → digits_of (suc m) n ≡ digits_of m (n / 10) ++ ((48 + n % 10) ∷ [])
unfolding digits_of
digits_more m n h = ap (λ (b : Bool). cond b ((48 + n) ∷ []) (digits_of m (n / 10) ++ ((48 + n % 10) ∷ []))) (le-ltb n 10 h)

-- a digit's code
glyph-is : (d : ℕ) → d < 10 → hex_digit_ascii d ≡ 48 + d
glyph-is d h = ap (λ (b : Bool). cond b (48 + d) (87 + d)) (lt-ltb d 10 h)

-- the digits before the last one are the fewest of what stands before it
fewer : (k n : ℕ) → IsDigitCount 10 1 n (suc (suc k)) → IsDigitCount 10 1 (n / 10) (suc k)
fewer k n f =
    let p = 10 ^ k in
    let l : p * 10 ≤ n = simp unary_clauses at (f.2 (omega arith)) in
    let u : n < p * 10 * 10 = simp unary_clauses at f.1 in (
      omega arith,
      simp unary_clauses (let h : n / 10 < p * 10 = omega arith in h),
      λ _. simp unary_clauses (let h : p ≤ n / 10 = omega arith in h),
    )

-- the fewest digits that hold a number are those of its decimal
fewest-digits : (k m n : ℕ) → IsDigitCount 10 1 n (suc k) → k < m → last_digits 10 (suc k) n ≡ digits_of m n
fewest-digits k zero n f h = absurd (let z : 1 ≤ 0 = omega arith in omega arith)
fewest-digits zero (suc m) n f h =
    let u : n < 10 = f.1 in
    ap (λ (d : ℕ). d ∷ []) (ap hex_digit_ascii (mod-eq_of_lt u) ∙ glyph-is n u) ∙ sym (digits-one m n u)
fewest-digits (suc k) (suc m) n f h =
    let l : 10 ^ k * 10 ≤ n = simp unary_clauses at (f.2 (omega arith)) in
    let g : 0 < 10 ^ k = one-le-pow k 10 (zero-lt-suc 9) in
    ap₂ (λ (l : List ℕ) (d : ℕ). l ++ (d ∷ [])) (fewest-digits k m (n / 10) (fewer k n f) (omega arith)) (glyph-is (n % 10) (omega arith))
    ∙ sym (digits_more m n (omega arith))

-- a number of 64 bits takes at most 20
pub fewest-20 : (n k : ℕ) → IsDigitCount 10 1 n k → n < 2 ^ 64 → k ≤ 20
fewest-20 n k f u = go (leb k 20) refl
  where
    go : (b : Bool) → leb k 20 ≡ b → k ≤ 20
    go true e = leb-true k 20 e
    go false e =
        let h : 20 < k = leb-false k 20 e in
        let j : 20 ≤ k - 1 = omega arith in
        let l : 10 ^ (k - 1) ≤ n = f.2 (omega arith) in
        let p : 10 ^ 20 ≤ 10 ^ (k - 1) = pow-le-pow_right (zero-lt-suc 9) j in
        absurd (let z : 2 ^ 64 ≤ 10 ^ 20 = omega arith in omega arith)

digits-length : (k n : ℕ) → length (digits_of k n) ≤ k
unfolding digits_of
digits-length zero n = omega arith
digits-length (suc k) n = go (ltb n 10) (digits-length k (n / 10))
  where
    go : (b : Bool) → length (digits_of k (n / 10)) ≤ k → length (cond b ((48 + n) ∷ []) (digits_of k (n / 10) ++ ((48 + n % 10) ∷ []))) ≤ suc k
    go true h = omega arith
    go false h = omega (arith, length-append (digits_of k (n / 10)) ((48 + n % 10) ∷ []))

-- so does its decimal
pub decimal-length : (n : ℕ) → length (decimal n) ≤ 20
unfolding decimal
decimal-length n = digits-length 20 n

-- so what the kit puts for it, k digits at the start of l, is its decimal
pub fewest-decimal : (k n : ℕ) (l : List ℕ) → n < 2 ^ 64 → IsDigitCount 10 1 n k → take k l ≡ last_digits 10 k n → take k l ≡ decimal n
unfolding decimal
fewest-decimal zero n l u f e = absurd (let z : 1 ≤ 0 = f.0 in omega arith)
fewest-decimal (suc k) n l u f e = e ∙ fewest-digits k 20 n f (fewest-20 n (suc k) f u)
