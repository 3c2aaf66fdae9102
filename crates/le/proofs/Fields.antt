-- Laws of the bits of a number: masks, fields, and the words that hold them. Assumes nothing.
use mathlib.Core.Path.{◌≡◌, sym, ap, ap₂, ◌∙◌, subst}
use Prim.Native.Nat.{ℕ, ◌+◌, ◌-◌, ◌*◌, ◌/◌, ◌%◌, ◌^◌, ◌≤◌, ◌<◌}
use native.Mathlib.Nat.{add-sub_of_le, sub-add_cancel, add-zero, add_assoc, add-mul, mul_assoc, mul-mod_left, mod-lt, mod-eq_of_lt, lt_of_lt_of_le, div-add-mod'}
use native.Mathlib.Omega.{arith}
use lib.Bits.{bit_and, bit_or, and_mask, or_shifted}
use lib.Pow as Pow
use lib.Pow.{pow_pos, pow_mono, pow-add, shl-shr, shr-shr, shr_lt, mod-pow-add, mod-mod-pow, high, low}
use Rattle.le.specs.Number.{field}

-- shifting up by 64 - w and down again leaves the w low bits
pub mask-law : (x w : ℕ) → w ≤ 64 → (x * 2 ^ (64 - w)) % 2 ^ 64 / 2 ^ (64 - w) ≡ x % 2 ^ w
mask-law x w h =
    let e : w + (64 - w) ≡ 64 = add-sub_of_le h in
    ap (λ (k : ℕ). (x * 2 ^ (64 - w)) % 2 ^ k / 2 ^ (64 - w)) (sym e)
    ∙ Pow.field (x * 2 ^ (64 - w)) w (64 - w)
    ∙ ap (λ (y : ℕ). y % 2 ^ w) (shl-shr x (64 - w))

-- a mask of a longer mask
pub mod-le-pow : (n w k : ℕ) → w ≤ k → n % 2 ^ k % 2 ^ w ≡ n % 2 ^ w
mod-le-pow n w k h = ap (λ (x : ℕ). n % 2 ^ x % 2 ^ w) (sym (sub-add_cancel h)) ∙ mod-mod-pow n (k - w) w

-- the low bits of two parts, the lower of a bits
pub parts-mod : (y a b r : ℕ) → r < 2 ^ a → (y * 2 ^ a + r) % 2 ^ (b + a) ≡ y % 2 ^ b * 2 ^ a + r
parts-mod y a b r h =
    mod-pow-add (y * 2 ^ a + r) b a
    ∙ ap₂ (λ (u v : ℕ). u % 2 ^ b * 2 ^ a + v) (high y a h) (low y a h)

-- a field of a field is a field
pub inside : (b at a k w : ℕ) → k + w ≤ a → field (field b at a) k w ≡ field b (at + k) w
inside b at a k w h =
    let n : ℕ = b / 2 ^ at in
    let e : a - k + k ≡ a = sub-add_cancel (omega arith) in
    ap (λ (x : ℕ). n % 2 ^ x / 2 ^ k % 2 ^ w) (sym e)
    ∙ ap (λ (x : ℕ). x % 2 ^ w) (Pow.field n (a - k) k)
    ∙ mod-le-pow (n / 2 ^ k) w (a - k) (omega arith)
    ∙ ap (λ (x : ℕ). x % 2 ^ w) (shr-shr b at k)

-- up to 56 bits lie in the eight bytes that begin at the first byte of the field
pub near-law : (b at w lo : ℕ) → w ≤ 56 → lo ≡ b / 2 ^ (8 * (at / 8)) % 2 ^ 64 → lo / 2 ^ (at % 8) % 2 ^ w ≡ b / 2 ^ at % 2 ^ w
near-law b at w lo h q =
    let f : 8 * (at / 8) + at % 8 ≡ at = omega arith in
    ap (λ (x : ℕ). x / 2 ^ (at % 8) % 2 ^ w) q
    ∙ inside b (8 * (at / 8)) 64 (at % 8) w (omega arith)
    ∙ ap (λ (j : ℕ). b / 2 ^ j % 2 ^ w) f

pub near-field : (b at w m lo : ℕ) → w ≤ 56 → m ≡ 2 ^ w - 1 → lo ≡ b / 2 ^ (8 * (at / 8)) % 2 ^ 64 → bit_and (lo / 2 ^ (at % 8)) m ≡ field b at w
near-field b at w m lo h e q = ap (bit_and (lo / 2 ^ (at % 8))) e ∙ and_mask (lo / 2 ^ (at % 8)) w ∙ near-law b at w lo h q

-- ---- 64 bits at any place: 64 from a byte on, and the ninth byte

pub join-law : (n k : ℕ) → k ≤ 8 → bit_or ((n / 2 ^ 64 % 2 ^ 8 * 2 ^ (64 - k)) % 2 ^ 64) (n % 2 ^ 64 / 2 ^ k) ≡ n / 2 ^ k % 2 ^ 64
join-law n k h =
    let m : ℕ = 64 - k in
    let e : k + m ≡ 64 = omega arith in
    let e' : m + k ≡ 64 = omega arith in
    let e8 : (8 - k) + k ≡ 8 = omega arith in
    let b : ℕ = n / 2 ^ 64 % 2 ^ 8 in
    let up : (b * 2 ^ m) % 2 ^ 64 ≡ b % 2 ^ k * 2 ^ m =
    ap (λ (x : ℕ). (b * 2 ^ m) % 2 ^ x) (sym e) ∙ mod-pow-add (b * 2 ^ m) k m
    ∙ ap₂ (λ (x y : ℕ). x % 2 ^ k * 2 ^ m + y) (shl-shr b m) (mul-mod_left b (2 ^ m)) ∙ add-zero (b % 2 ^ k * 2 ^ m) in
    let bk : b % 2 ^ k ≡ n / 2 ^ 64 % 2 ^ k =
    ap (λ (x : ℕ). n / 2 ^ 64 % 2 ^ x % 2 ^ k) (sym e8) ∙ mod-mod-pow (n / 2 ^ 64) (8 - k) k in
    let lo : n % 2 ^ 64 / 2 ^ k ≡ n / 2 ^ k % 2 ^ m =
    ap (λ (x : ℕ). n % 2 ^ x / 2 ^ k) (sym e') ∙ Pow.field n m k in
    let hi : n / 2 ^ 64 ≡ n / 2 ^ k / 2 ^ m = sym (shr-shr n k m ∙ ap (λ (x : ℕ). n / 2 ^ x) e) in
    ap₂ bit_or up lo
    ∙ or_shifted (b % 2 ^ k) m (n / 2 ^ k % 2 ^ m) (mod-lt (n / 2 ^ k) (pow_pos m))
    ∙ ap (λ (x : ℕ). x * 2 ^ m + n / 2 ^ k % 2 ^ m) (bk ∙ ap (λ (x : ℕ). x % 2 ^ k) hi)
    ∙ sym (mod-pow-add (n / 2 ^ k) k m)
    ∙ ap (λ (x : ℕ). n / 2 ^ k % 2 ^ x) e

pub window-law : (b at x y : ℕ) → x ≡ b / 2 ^ (8 * (at / 8 + 8)) % 2 ^ 8 → y ≡ b / 2 ^ (8 * (at / 8)) % 2 ^ 64
    → bit_or ((x * 2 ^ (64 - at % 8)) % 2 ^ 64) (y / 2 ^ (at % 8)) ≡ b / 2 ^ at % 2 ^ 64
window-law b at x y p q =
    let n : ℕ = b / 2 ^ (8 * (at / 8)) in
    let e : 8 * (at / 8) + 64 ≡ 8 * (at / 8 + 8) = omega arith in
    let f : 8 * (at / 8) + at % 8 ≡ at = omega arith in
    let hk : at % 8 ≤ 8 = omega arith in
    let p' : x ≡ n / 2 ^ 64 % 2 ^ 8 = p ∙ ap (λ (j : ℕ). j % 2 ^ 8) (sym (shr-shr b (8 * (at / 8)) 64 ∙ ap (λ (j : ℕ). b / 2 ^ j) e)) in
    ap₂ (λ (u v : ℕ). bit_or ((u * 2 ^ (64 - at % 8)) % 2 ^ 64) (v / 2 ^ (at % 8))) p' q
    ∙ join-law n (at % 8) hk
    ∙ ap (λ (j : ℕ). j % 2 ^ 64) (shr-shr b (8 * (at / 8)) (at % 8) ∙ ap (λ (j : ℕ). b / 2 ^ j) f)

-- the ninth byte, shifted up by two shifts below 64
pub nine-law : (b at x y : ℕ) → x ≡ b / 2 ^ (8 * (at / 8 + 8)) % 2 ^ 8 → y ≡ b / 2 ^ (8 * (at / 8)) % 2 ^ 64
    → bit_or ((x * 2 * 2 ^ (63 - at % 8)) % 2 ^ 64) (y / 2 ^ (at % 8)) ≡ b / 2 ^ at % 2 ^ 64
nine-law b at x y p q =
    let e : 1 + (63 - at % 8) ≡ 64 - at % 8 = omega arith in
    ap (λ (z : ℕ). bit_or (z % 2 ^ 64) (y / 2 ^ (at % 8))) (mul_assoc x 2 (2 ^ (63 - at % 8)) ∙ ap (λ (z : ℕ). x * z) (sym (pow-add 2 1 (63 - at % 8)) ∙ ap (λ (j : ℕ). 2 ^ j) e))
    ∙ window-law b at x y p q

-- ---- v put at bit k of a byte, over the q that stands below: its low word, and what is left above
module _ (v k : ℕ) (hk : k < 8) where
  abbrev mm : ℕ
  mm = 64 - k

  back : mm + k ≡ 64
  back = omega arith

  pub lo-law : (q : ℕ) → q < 2 ^ k → bit_or ((v * 2 ^ k) % 2 ^ 64) q ≡ v % 2 ^ (64 - k) * 2 ^ k + q
  lo-law q h =
      ap (λ (x : ℕ). bit_or ((v * 2 ^ k) % 2 ^ x) q) (sym back)
      ∙ ap (λ (x : ℕ). bit_or x q)
      (mod-pow-add (v * 2 ^ k) mm k
      ∙ ap₂ (λ (x y : ℕ). x % 2 ^ mm * 2 ^ k + y) (shl-shr v k) (mul-mod_left v (2 ^ k)) ∙ add-zero (v % 2 ^ mm * 2 ^ k))
      ∙ or_shifted (v % 2 ^ mm) k q h

  pub whole-law : (q : ℕ) → v / 2 ^ (64 - k) * 2 ^ 64 + (v % 2 ^ (64 - k) * 2 ^ k + q) ≡ v * 2 ^ k + q
  whole-law q =
      ap (λ (x : ℕ). v / 2 ^ mm * 2 ^ x + (v % 2 ^ mm * 2 ^ k + q)) (sym back)
      ∙ ap (λ (x : ℕ). v / 2 ^ mm * x + (v % 2 ^ mm * 2 ^ k + q)) (pow-add 2 mm k)
      ∙ sym (add_assoc (v / 2 ^ mm * (2 ^ mm * 2 ^ k)) (v % 2 ^ mm * 2 ^ k) q)
      ∙ ap (λ (x : ℕ). x + v % 2 ^ mm * 2 ^ k + q) (sym (mul_assoc (v / 2 ^ mm) (2 ^ mm) (2 ^ k)))
      ∙ ap (λ (x : ℕ). x + q) (sym (add-mul (v / 2 ^ mm * 2 ^ mm) (v % 2 ^ mm) (2 ^ k)))
      ∙ ap (λ (x : ℕ). x * 2 ^ k + q) (div-add-mod' v (2 ^ mm))

-- a number of 64 bits has at most k bits above 64 - k
pub top-law : (v k : ℕ) → k < 8 → v < 2 ^ 64 → v / 2 ^ (64 - k) % 256 ≡ v / 2 ^ (64 - k)
top-law v k h l =
    let e : k + (64 - k) ≡ 64 = omega arith in
    mod-eq_of_lt (lt_of_lt_of_le (shr_lt k (64 - k) (subst (λ (x : ℕ). v < 2 ^ x) (sym e) l)) (pow_mono {j = 8} (omega arith)))
