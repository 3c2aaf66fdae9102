-- Laws of the number that bytes are. Assumes nothing.
use mathlib.Core.Path.{◌≡◌, refl, sym, ap, ap₂, ◌∙◌, subst}
use mathlib.Core.List.{List, [], ◌∷◌}
use Prim.Native.Nat.{ℕ, zero, suc, ◌+◌, ◌-◌, ◌*◌, ◌/◌, ◌%◌, ◌^◌, ◌≤◌, ◌<◌, zero-le, suc-le-suc}
use native.Mathlib.Nat.{zero-div, zero-mod, div-one, div-le_self, mod-one, mod-lt, mod-eq_of_lt, lt_of_lt_of_le}
use native.Mathlib.Omega.{arith}
use lib.Arith.{digits_div, digits_mod, digits_lt}
use lib.ListN.{length, get_or, take, drop, length-drop, drop_of_length-le}
use lib.Seq.{drop-cons, drop-length}
use lib.Pow.{pow_pos, pow_mono, pow-add, shr-shr, mod-pow-add}
use Rattle.le.specs.Number.{Bytes, number, number_at, field}
use Rattle.le.proofs.Fields.{parts-mod}

-- the number without its lowest byte
number-tail : (b : ℕ) (s : List ℕ) → Bytes (b ∷ s) → number (b ∷ s) / 256 ≡ number s
unfolding number
number-tail b s h = digits_div (number s) (h 0)

pub number-drop : (s : List ℕ) (i : ℕ) → Bytes s → number s / 2 ^ (8 * i) ≡ number (drop i s)
unfolding number
number-drop s zero h = div-one (number s)
number-drop [] (suc i) h = zero-div (2 ^ (8 * suc i))
number-drop (b ∷ s) (suc i) h =
    let e : 8 * suc i ≡ 8 + 8 * i = omega arith in
    ap (λ (k : ℕ). number (b ∷ s) / 2 ^ k) e
    ∙ sym (shr-shr (number (b ∷ s)) 8 (8 * i))
    ∙ ap (λ (x : ℕ). x / 2 ^ (8 * i)) (number-tail b s h)
    ∙ number-drop s i (λ j. h (suc j))

head_of : (s : List ℕ) → Bytes s → number s % 256 ≡ get_or s 0 0
unfolding number
head_of [] h = refl
head_of (b ∷ s) h = digits_mod (number s) (h 0)

getD-drop0 : (s : List ℕ) (i : ℕ) → get_or (drop i s) 0 0 ≡ get_or s i 0
getD-drop0 s zero = refl
getD-drop0 [] (suc i) = refl
getD-drop0 (b ∷ s) (suc i) = getD-drop0 s i

bytes_drop : (s : List ℕ) (i : ℕ) → Bytes s → Bytes (drop i s)
bytes_drop s zero h = h
bytes_drop [] (suc i) h = h
bytes_drop (b ∷ s) (suc i) h = bytes_drop s i (λ j. h (suc j))

bytes_take : (s : List ℕ) (k : ℕ) → Bytes s → Bytes (take k s)
bytes_take s zero h j = suc-le-suc zero-le
bytes_take [] (suc k) h j = h j
bytes_take (b ∷ s) (suc k) h zero = h 0
bytes_take (b ∷ s) (suc k) h (suc j) = bytes_take s k (λ i. h (suc i)) j

-- a part of bytes is bytes
pub bytes-part : (s : List ℕ) (at len : ℕ) → Bytes s → Bytes (take len (drop at s))
bytes-part s at len h = bytes_take (drop at s) len (bytes_drop s at h)

pub byte_at : (s : List ℕ) (i : ℕ) → Bytes s → number s / 2 ^ (8 * i) % 2 ^ 8 ≡ get_or s i 0
byte_at s i h = ap (λ (x : ℕ). x % 256) (number-drop s i h) ∙ head_of (drop i s) (bytes_drop s i h) ∙ getD-drop0 s i

pub number_lt : (s : List ℕ) → Bytes s → number s < 2 ^ (8 * length s)
unfolding number
number_lt [] h = suc-le-suc zero-le
number_lt (b ∷ s) h =
    let e : 8 * suc (length s) ≡ 8 * length s + 8 = omega arith in
    subst (λ (x : ℕ). number s * 256 + b < x) (sym (ap (λ (k : ℕ). 2 ^ k) e ∙ pow-add 2 (8 * length s) 8))
    (digits_lt (number_lt s (λ j. h (suc j))) (h 0))

-- the number of the first k bytes: the 8 * k low bits
pub number-take : (s : List ℕ) (k : ℕ) → Bytes s → number s % 2 ^ (8 * k) ≡ number (take k s)
unfolding number
number-take s zero h = mod-one (number s)
number-take [] (suc k) h = zero-mod (2 ^ (8 * suc k))
number-take (b ∷ s) (suc k) h =
    let e : 8 * suc k ≡ 8 * k + 8 = omega arith in
    ap (λ (j : ℕ). (number s * 256 + b) % 2 ^ j) e
    ∙ parts-mod (number s) 8 (8 * k) b (h 0)
    ∙ ap (λ (x : ℕ). x * 256 + b) (number-take s k (λ j. h (suc j)))

-- ---- the number of k bytes from a place on

-- it is the field of their bits
pub number-at : (k : ℕ) (s : List ℕ) (at : ℕ) → Bytes s → number_at k s at ≡ field (number s) (8 * at) (8 * k)
unfolding number_at
number-at k s at h = sym (ap (λ (x : ℕ). x % 2 ^ (8 * k)) (number-drop s at h) ∙ number-take (drop at s) k (bytes_drop s at h))

pub number-at-lt : (k : ℕ) (s : List ℕ) (at : ℕ) → Bytes s → number_at k s at < 2 ^ (8 * k)
number-at-lt k s at h = subst (λ (x : ℕ). x < 2 ^ (8 * k)) (sym (number-at k s at h)) (mod-lt (number s / 2 ^ (8 * at)) (pow_pos (8 * k)))

-- so many bytes, and more above them
pub number-at-join : (k j : ℕ) (s : List ℕ) (at : ℕ) → Bytes s → number_at (k + j) s at ≡ number_at j s (at + k) * 2 ^ (8 * k) + number_at k s at
number-at-join k j s at h =
    let e : 8 * (k + j) ≡ 8 * j + 8 * k = omega arith in
    let f : 8 * at + 8 * k ≡ 8 * (at + k) = omega arith in
    number-at (k + j) s at h
    ∙ ap (λ (i : ℕ). number s / 2 ^ (8 * at) % 2 ^ i) e
    ∙ mod-pow-add (number s / 2 ^ (8 * at)) (8 * j) (8 * k)
    ∙ ap₂ (λ (x y : ℕ). x * 2 ^ (8 * k) + y)
    (ap (λ (x : ℕ). x % 2 ^ (8 * j)) (shr-shr (number s) (8 * at) (8 * k) ∙ ap (λ (i : ℕ). number s / 2 ^ i) f) ∙ sym (number-at j s (at + k) h))
    (sym (number-at k s at h))

pub number-at-one : (s : List ℕ) (at : ℕ) → Bytes s → number_at 1 s at ≡ get_or s at 0
number-at-one s at h = number-at 1 s at h ∙ byte_at s at h

-- ---- the last bytes

pub tail-lt : (s : List ℕ) (e k : ℕ) → Bytes s → length s ≤ e + k → number (drop e s) < 2 ^ (8 * k)
tail-lt s e k h l = lt_of_lt_of_le (number_lt (drop e s) (bytes_drop s e h)) (pow_mono (omega (arith, length-drop e s)))

pub tail-law : (s : List ℕ) (i : ℕ) → Bytes s → length s < i + 8 → number (drop i s) ≡ number s / 2 ^ (8 * i) % 2 ^ 64
tail-law s i h l = sym (ap (λ (x : ℕ). x % 2 ^ 64) (number-drop s i h) ∙ mod-eq_of_lt (tail-lt s i 8 h (omega arith)))

pub past-law : (s : List ℕ) (i k : ℕ) → Bytes s → length s ≤ i → 0 ≡ number s / 2 ^ (8 * i) % 2 ^ k
unfolding number
past-law s i k h l = sym (ap (λ (x : ℕ). x % 2 ^ k) (number-drop s i h ∙ ap number (drop_of_length-le s l)) ∙ zero-mod (2 ^ k))

pub number_step : (s : List ℕ) (e : ℕ) → 0 < e → e ≤ length s → number (drop e s) * 256 + get_or s (e - 1) 0 ≡ number (drop (e - 1) s)
unfolding number
number_step s e p l =
    let q : suc (e - 1) ≡ e = omega arith in
    sym (ap number (drop-cons s (e - 1) 0 (omega arith)) ∙ ap (λ (k : ℕ). number (drop k s) * 256 + get_or s (e - 1) 0) q)

pub empty-law : (s : List ℕ) → 0 ≡ number (drop (length s) s)
unfolding number
empty-law s = sym (ap number (drop-length s))

-- a word that ends with the bytes, or behind them, has all the bits from its first on
whole-law : (s : List ℕ) (f : ℕ) → Bytes s → length s ≤ f + 8 → number s / 2 ^ (8 * f) % 2 ^ 64 ≡ number s / 2 ^ (8 * f)
whole-law s f h l = ap (λ (x : ℕ). x % 2 ^ 64) (number-drop s f h) ∙ mod-eq_of_lt (tail-lt s f 8 h l) ∙ sym (number-drop s f h)

-- so the bits from a place in it on are what is left of it
pub closing-law : (s : List ℕ) (f at : ℕ) → Bytes s → length s ≤ f + 8 → 8 * f ≤ at → number s / 2 ^ (8 * f) % 2 ^ 64 / 2 ^ (at - 8 * f) ≡ number s / 2 ^ at
closing-law s f at h l q =
    let e : 8 * f + (at - 8 * f) ≡ at = omega arith in
    ap (λ (x : ℕ). x / 2 ^ (at - 8 * f)) (whole-law s f h l) ∙ shr-shr (number s) (8 * f) (at - 8 * f) ∙ ap (λ (k : ℕ). number s / 2 ^ k) e

-- and so are those from byte i on
pub last-law : (s : List ℕ) (f i : ℕ) → Bytes s → length s ≤ f + 8 → f ≤ i → number s / 2 ^ (8 * f) % 2 ^ 64 / 2 ^ ((i - f) * 8) ≡ number s / 2 ^ (8 * i) % 2 ^ 64
last-law s f i h l q =
    let e : (i - f) * 8 ≡ 8 * i - 8 * f = omega arith in
    ap (λ (k : ℕ). number s / 2 ^ (8 * f) % 2 ^ 64 / 2 ^ k) e ∙ closing-law s f (8 * i) h l (omega arith) ∙ sym (whole-law s i h (omega arith))

-- the bits from a place on that lies in the last byte, i, or right behind it, are what is left of that byte
pub rest-law : (s : List ℕ) (i at : ℕ) → Bytes s → length s ≤ i + 1 → 8 * i ≤ at → get_or s i 0 / 2 ^ (at - 8 * i) ≡ number s / 2 ^ at % 2 ^ 64
rest-law s i at h l q =
    let e : 8 * i + (at - 8 * i) ≡ at = omega arith in
    let small : number s / 2 ^ (8 * i) < 256 = subst (λ (x : ℕ). x < 256) (sym (number-drop s i h)) (tail-lt s i 1 h l) in
    let byte : get_or s i 0 ≡ number s / 2 ^ (8 * i) = sym (byte_at s i h) ∙ mod-eq_of_lt small in
    let here : get_or s i 0 / 2 ^ (at - 8 * i) ≡ number s / 2 ^ at = ap (λ (x : ℕ). x / 2 ^ (at - 8 * i)) byte ∙ shr-shr (number s) (8 * i) (at - 8 * i) ∙ ap (λ (k : ℕ). number s / 2 ^ k) e in
    let few : number s / 2 ^ at < 2 ^ 64 = subst (λ (x : ℕ). x < 2 ^ 64) here (omega (arith, h i, div-le_self (get_or s i 0) (2 ^ (at - 8 * i)))) in
    here ∙ sym (mod-eq_of_lt few)
