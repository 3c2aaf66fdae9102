-- Laws of the bytes of a number, at every count of bytes, and of numbers in parts of a list. Assumes nothing.
use mathlib.Core.Path.{◌≡◌, refl, sym, ap, ap₂, ◌∙◌}
use mathlib.Core.List.{List, [], ◌∷◌, ◌++◌}
use Prim.Native.Nat.{ℕ, zero, suc, ◌+◌, ◌*◌, ◌/◌, ◌%◌, ◌^◌, ◌≤◌, ◌<◌, zero-le, suc-le-suc}
use native.Mathlib.Nat.{mod-one, mod-lt, mod-eq_of_lt}
use native.Mathlib.Omega.{arith}
use lib.Arith.{digits_div, digits_mod}
use lib.ListN.{length, take, drop}
use lib.Seq.{take-take, take_at, drop-drop, drop-append-add}
use lib.Pow.{mod-pow-add}
use Rattle.le.specs.Number.{number, bytes_of, number_at, Bytes}

pub length-bytes_of : (k x : ℕ) → length (bytes_of k x) ≡ k
unfolding bytes_of
length-bytes_of zero x = refl
length-bytes_of (suc k) x = ap suc (length-bytes_of k (x / 256))

-- each is a byte
pub bytes-bytes_of : (k x : ℕ) → Bytes (bytes_of k x)
unfolding bytes_of
bytes-bytes_of zero x j = suc-le-suc zero-le
bytes-bytes_of (suc k) x zero = mod-lt x (suc-le-suc zero-le)
bytes-bytes_of (suc k) x (suc j) = bytes-bytes_of k (x / 256) j

-- ---- there and back

-- the number of k bytes of x: its 8 * k low bits
pub number-bytes_of : (k x : ℕ) → number (bytes_of k x) ≡ x % 2 ^ (8 * k)
unfolding bytes_of number
number-bytes_of zero x = sym (mod-one x)
number-bytes_of (suc k) x =
    let e : 8 * k + 8 ≡ 8 * suc k = omega arith in
    ap (λ (y : ℕ). y * 256 + x % 256) (number-bytes_of k (x / 256))
    ∙ sym (mod-pow-add x (8 * k) 8)
    ∙ ap (λ (j : ℕ). x % 2 ^ j) e

pub number-of-fit : (k x : ℕ) → x < 2 ^ (8 * k) → number (bytes_of k x) ≡ x
number-of-fit k x h = number-bytes_of k x ∙ mod-eq_of_lt h

pub bytes-number : (t : List ℕ) → Bytes t → bytes_of (length t) (number t) ≡ t
unfolding bytes_of number
bytes-number [] h = refl
bytes-number (b ∷ t) h =
    ap₂ (λ (x y : ℕ). x ∷ bytes_of (length t) y) (digits_mod (number t) (h 0)) (digits_div (number t) (h 0))
    ∙ ap (λ (l : List ℕ). b ∷ l) (bytes-number t (λ j. h (suc j)))

-- bits above the k bytes do not count
pub bytes_of_mod : (k x : ℕ) → bytes_of k (x % 2 ^ (8 * k)) ≡ bytes_of k x
bytes_of_mod k x =
    ap₂ bytes_of (sym (length-bytes_of k x)) (sym (number-bytes_of k x))
    ∙ bytes-number (bytes_of k x) (bytes-bytes_of k x)

-- ---- the number of k bytes from a place on, in parts of a list

-- behind a seam
pub number-at-append : (k : ℕ) (a b : List ℕ) (i : ℕ) → number_at k (a ++ b) (length a + i) ≡ number_at k b i
unfolding number_at
number-at-append k a b i = ap (λ (l : List ℕ). number (take k l)) (drop-append-add a b i)

-- at the front, where bytes of a number stand
pub number-at-bytes_of : (k x : ℕ) (r : List ℕ) → number_at k (bytes_of k x ++ r) 0 ≡ x % 2 ^ (8 * k)
unfolding number_at
number-at-bytes_of k x r = ap number (take_at (bytes_of k x) r k (length-bytes_of k x)) ∙ number-bytes_of k x

-- k elements from i on, where the first n have them all
pub take-inside : (k i n : ℕ) (l : List ℕ) → i + k ≤ n → take k (drop i (take n l)) ≡ take k (drop i l)
take-inside k zero n l h = take-take k n l (omega arith)
take-inside k (suc i) zero l h = absurd (omega arith)
take-inside k (suc i) (suc n) [] h = refl
take-inside k (suc i) (suc n) (x ∷ l) h = take-inside k i n l (omega arith)

-- in a part that has them all
pub number-at-part : (k n at i : ℕ) (s : List ℕ) → i + k ≤ n → number_at k (take n (drop at s)) i ≡ number_at k s (at + i)
unfolding number_at
number-at-part k n at i s h =
    ap number (take-inside k i n (drop at s) h ∙ ap (take k) (drop-drop i at s))
