-- The bit of a place, set in flags that have none from that place on. Assumes nothing.
use mathlib.Core.Path.{◌≡◌, refl, sym, ap, ◌∙◌, subst}
use mathlib.Core.Bool.{Bool, true, false}
use mathlib.Core.List.{List, [], ◌∷◌}
use Prim.Native.Nat.{ℕ, zero, suc, ◌+◌, ◌-◌, ◌*◌, ◌/◌, ◌%◌, ◌^◌, ◌≤◌, ◌<◌}
use native.Mathlib.Nat.{mod-eq_of_lt, add-zero, mul_assoc}
use native.Mathlib.Omega.{arith}
use lib.Bits.{bit_or}
use lib.ListN.{length, get_or, set}
use lib.Pow.{pow-add, pow_mono, shr_lt}
use Rattle.le.specs.Number.{number, Bytes}
use Rattle.le.proofs.Fields.{lo-law}
use Rattle.le.proofs.Numbers.{byte_at}
use Rattle.search.specs.Flags.{only_if, Adds}

-- a byte that grows by x
number-set : (s : List ℕ) (i b x : ℕ) → i < length s → b ≡ get_or s i 0 + x → number (set s i b) ≡ number s + x * 2 ^ (8 * i)
unfolding number
number-set [] i b x h e = absurd (omega arith)
number-set (y ∷ s) zero b x h e = omega (arith, e)
number-set (y ∷ s) (suc i) b x h e =
    let p : 2 ^ (8 * suc i) ≡ 2 ^ (8 * i) * 256 = (let z : 8 * suc i ≡ 8 * i + 8 = omega arith in ap (λ (k : ℕ). 2 ^ k) z ∙ pow-add 2 (8 * i) 8) in
    let r : number (set s i b) ≡ number s + x * 2 ^ (8 * i) = number-set s i b x (omega arith) e in
    let t : x * 2 ^ (8 * suc i) ≡ x * 2 ^ (8 * i) * 256 = ap (λ (q : ℕ). x * q) p ∙ sym (mul_assoc x (2 ^ (8 * i)) 256) in
    let m : ℕ = x * 2 ^ (8 * i) in
    let r' : number (set s i b) ≡ number s + m = r in
    let t' : x * 2 ^ (8 * suc i) ≡ m * 256 = t in
    omega (arith, r', t')

module _ (d : List ℕ) (place : ℕ) where
  eight : 8 * (place / 8) + place % 8 ≡ place
  eight = omega arith

  -- below the bit
  held-lt : Bytes d → number d < 2 ^ place → get_or d (place / 8) 0 < 2 ^ (place % 8)
  held-lt h l =
      let e : place % 8 + 8 * (place / 8) ≡ place = omega arith in
      let q : number d / 2 ^ (8 * (place / 8)) < 2 ^ (place % 8) = shr_lt (place % 8) (8 * (place / 8)) (subst (λ (k : ℕ). number d < 2 ^ k) (sym e) l) in
      let r = byte_at d (place / 8) h in
      omega (arith, q, r)

  pub mark-law : (b w : ℕ) → Bytes d → b ≡ w % 256 → w ≡ bit_or ((1 * 2 ^ (place % 8)) % 2 ^ 64) (get_or d (place / 8) 0)
      → Adds d (set d (place / 8) b) place (place + 1) (2 ^ place)
  mark-law b w h e f = record { added = go }
    where
      go : place + 1 ≤ 8 * length d → number d < 2 ^ place → number (set d (place / 8) b) ≡ number d + 2 ^ place
      go r l =
          let k = place % 8 in
          let lt = held-lt h l in
          let one : 1 % 2 ^ (64 - k) ≡ 1 = mod-eq_of_lt (pow_mono {i = 1} {j = 64 - k} (omega arith)) in
          let v : w ≡ 2 ^ k + get_or d (place / 8) 0 = f ∙ lo-law 1 k (omega arith) (get_or d (place / 8) 0) lt ∙ (let z : 1 % 2 ^ (64 - k) * 2 ^ k ≡ 2 ^ k = ap (λ (x : ℕ). x * 2 ^ k) one ∙ omega arith in ap (λ (x : ℕ). x + get_or d (place / 8) 0) z) in
          let top : 2 ^ k ≤ 128 = pow_mono {i = k} {j = 7} (omega arith) in
          let small : w < 256 = omega (arith, v, lt, top) in
          let y : b ≡ get_or d (place / 8) 0 + 2 ^ k = e ∙ mod-eq_of_lt small ∙ omega (arith, v) in
          number-set d (place / 8) b (2 ^ k) (omega arith) y
          ∙ ap (λ (x : ℕ). number d + x) (sym (pow-add 2 k (8 * (place / 8))) ∙ ap (λ (x : ℕ). 2 ^ x) (omega arith))

-- a hit, or none
pub note-hit : (b : Bool) (d e : List ℕ) (n to x : ℕ) → b ≡ true → Adds d e n to x → (1 ≡ only_if b 1) × Adds d e n to (only_if b x)
note-hit b d e n to x h a = rw h (refl, a)

pub note-none : (b : Bool) (d : List ℕ) (n to x : ℕ) → b ≡ false → (0 ≡ only_if b 1) × Adds d d n to (only_if b x)
note-none b d n to x h = rw h (refl, record { added = λ _ _. sym (add-zero (number d)) })
