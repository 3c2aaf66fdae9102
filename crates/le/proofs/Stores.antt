-- Laws of runs of stores of the bytes of a number. Assumes nothing.
use mathlib.Core.Path.{◌≡◌, sym, ap, ap₂, ◌∙◌}
use mathlib.Core.List.{List, [], ◌∷◌, ◌++◌}
use Prim.Native.Nat.{ℕ, zero, suc, ◌+◌, ◌*◌, ◌/◌, ◌%◌, ◌^◌, ◌≤◌, ◌<◌}
use native.Mathlib.Nat.{add-zero, zero-add, div-one}
use native.Mathlib.Omega.{arith}
use lib.ListN.{length, set}
use lib.Seq.{sets, length-sets, set_out}
use lib.Pow.{shr-shr}
use Rattle.le.specs.Number.{bytes_of, Bytes}
use Rattle.le.proofs.Bytes.{length-bytes_of}

-- ---- the list stays one of bytes

pub bytes-set : (s : List ℕ) (i b : ℕ) → Bytes s → b < 256 → Bytes (set s i b)
bytes-set [] i b h l j = h j
bytes-set (a ∷ s) zero b h l zero = l
bytes-set (a ∷ s) zero b h l (suc j) = h (suc j)
bytes-set (a ∷ s) (suc i) b h l zero = h 0
bytes-set (a ∷ s) (suc i) b h l (suc j) = bytes-set s i b (λ k. h (suc k)) l j

pub bytes-sets : (vs s : List ℕ) (i : ℕ) → Bytes s → Bytes vs → Bytes (sets s i vs)
bytes-sets [] s i h l = h
bytes-sets (v ∷ vs) s i h l = bytes-sets vs (set s i v) (suc i) (bytes-set s i v h (l 0)) (λ j. l (suc j))

-- ---- two runs, one after the other, are one

pub sets-append : (h l out : List ℕ) (n : ℕ) → sets out n (h ++ l) ≡ sets (sets out n h) (n + length h) l
sets-append [] l out n = rw add-zero
sets-append (a ∷ h) l out n =
    let z : n + suc (length h) ≡ suc n + length h = omega arith in
    rw z (sets-append h l (set out n a) (suc n))

-- ---- the bytes of a number: so many, and more above them

bytes-join : (k j x : ℕ) → bytes_of (k + j) x ≡ bytes_of k x ++ bytes_of j (x / 2 ^ (8 * k))
unfolding bytes_of
bytes-join zero j x = ap₂ bytes_of (zero-add j) (sym (div-one x))
bytes-join (suc k) j x =
    let e : suc k + j ≡ suc (k + j) = omega arith in
    let f : 8 + 8 * k ≡ 8 * suc k = omega arith in
    ap (λ (i : ℕ). bytes_of i x) e
    ∙ ap (λ (l : List ℕ). x % 256 ∷ l) (bytes-join k j (x / 256))
    ∙ ap (λ (y : ℕ). x % 256 ∷ (bytes_of k (x / 256) ++ bytes_of j y)) (shr-shr x 8 (8 * k) ∙ ap (λ (i : ℕ). x / 2 ^ i) f)

sets-join : (k j : ℕ) (d : List ℕ) (at x : ℕ) → sets d at (bytes_of (k + j) x) ≡ sets (sets d at (bytes_of k x)) (at + k) (bytes_of j (x / 2 ^ (8 * k)))
sets-join k j d at x =
    ap (sets d at) (bytes-join k j x)
    ∙ sets-append (bytes_of k x) (bytes_of j (x / 2 ^ (8 * k))) d at
    ∙ ap (λ (n : ℕ). sets (sets d at (bytes_of k x)) (at + n) (bytes_of j (x / 2 ^ (8 * k)))) (length-bytes_of k x)

-- a store of the lower bytes, and one of those above them
pub stores-join : (k j : ℕ) (d t u : List ℕ) (at x : ℕ) → t ≡ sets d at (bytes_of k x) → u ≡ sets t (at + k) (bytes_of j (x / 2 ^ (8 * k))) → u ≡ sets d at (bytes_of (k + j) x)
stores-join k j d t u at x p q = q ∙ ap (λ (l : List ℕ). sets l (at + k) (bytes_of j (x / 2 ^ (8 * k)))) p ∙ sym (sets-join k j d at x)

pub sets_more : (k : ℕ) (d : List ℕ) (at x : ℕ) → sets d at (bytes_of (suc k) x) ≡ set (sets d at (bytes_of k x)) (at + k) (x / 2 ^ (8 * k) % 256)
unfolding bytes_of
sets_more k d at x =
    let e : suc k ≡ k + 1 = omega arith in
    ap (λ (i : ℕ). sets d at (bytes_of i x)) e ∙ sets-join k 1 d at x

-- a store of the next byte
pub store-first : (d : List ℕ) (at x b : ℕ) → b ≡ x % 256 → set d at b ≡ sets d at (bytes_of 1 x)
unfolding bytes_of
store-first d at x b e = ap (set d at) e

pub store-more : (k : ℕ) (d t : List ℕ) (at x b : ℕ) → b ≡ x / 2 ^ (8 * k) % 256 → t ≡ sets d at (bytes_of k x)
    → set t (at + k) b ≡ sets d at (bytes_of (suc k) x)
store-more k d t at x b e p = ap₂ (λ (l : List ℕ) (y : ℕ). set l (at + k) y) p e ∙ sym (sets_more k d at x)

-- a byte past the end is not stored
pub sets-past : (m j : ℕ) (d : List ℕ) (at x : ℕ) → length d ≤ at + j → sets d at (bytes_of (j + m) x) ≡ sets d at (bytes_of j x)
sets-past zero j d at x h = ap (λ (k : ℕ). sets d at (bytes_of k x)) (add-zero j)
sets-past (suc m) j d at x h =
    let e : j + suc m ≡ suc (j + m) = omega arith in
    ap (λ (k : ℕ). sets d at (bytes_of k x)) e
    ∙ sets_more (j + m) d at x
    ∙ set_out (sets d at (bytes_of (j + m) x)) (at + (j + m)) (x / 2 ^ (8 * (j + m)) % 256) (omega (arith, length-sets d at (bytes_of (j + m) x)))
    ∙ sets-past m j d at x h
