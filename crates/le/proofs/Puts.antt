-- What a store of a field leaves, of the bits up to its own; and that `put_field` is such a store. Assumes nothing.
use mathlib.Core.Path.{◌≡◌, refl, sym, ap, ap₂, ◌∙◌, subst}
use mathlib.Core.Bool.{Bool, true, false}
use mathlib.Core.List.{List, [], ◌∷◌}
use Prim.Native.Nat.{ℕ, zero, suc, ◌+◌, ◌-◌, ◌*◌, ◌/◌, ◌%◌, ◌^◌, ◌≤◌, ◌<◌}
use native.Mathlib.Nat.{add_comm, add-zero, zero-add, zero-mul, add_assoc, add-mul, mul_assoc, mod-one, mod-lt, mod-eq_of_lt}
use native.Mathlib.Omega.{arith}
use borrow.Author.Tests.{leb-true, leb-false}
use lib.Arith.{digits_lt}
use lib.Dec.{leb}
use lib.ListN.{length, set, length-set}
use lib.Seq.{get_or-set_same, sets, length-sets}
use lib.Pow.{pow_pos, pow-add, mod-pow-add}
use Rattle.le.specs.Number.{number, bytes_of, Bytes}
use Rattle.le.specs.Put.{put_field}
use Rattle.le.proofs.Fields.{mod-le-pow, parts-mod}
use Rattle.le.proofs.Numbers.{byte_at}
use Rattle.le.proofs.Bytes.{bytes-bytes_of}
use Rattle.le.proofs.Stores.{bytes-set, bytes-sets, sets_more, sets-past}

-- t is s with v in the w bits from place at on: what stood below the place still stands there. Above at + w anything may stand
pub record Put (s t : List ℕ) (at w v : ℕ) : Type 0 where
  pub same : length t ≡ length s
  pub low : number t % 2 ^ (at + w) ≡ v * 2 ^ at + number s % 2 ^ at

-- a store leaves what stands below
below_set : (s : List ℕ) (i b : ℕ) → Bytes s → number (set s i b) % 2 ^ (8 * i) ≡ number s % 2 ^ (8 * i)
unfolding number
below_set [] i b h = refl
below_set (a ∷ s) zero b h = mod-one (number (set (a ∷ s) 0 b)) ∙ sym (mod-one (number (a ∷ s)))
below_set (a ∷ s) (suc i) b h =
    let e : 8 * suc i ≡ 8 * i + 8 = omega arith in
    ap (λ (k : ℕ). (number (set s i b) * 256 + a) % 2 ^ k) e
    ∙ parts-mod (number (set s i b)) 8 (8 * i) a (h 0)
    ∙ ap (λ (x : ℕ). x * 256 + a) (below_set s i b (λ j. h (suc j)))
    ∙ sym (parts-mod (number s) 8 (8 * i) a (h 0))
    ∙ ap (λ (k : ℕ). (number s * 256 + a) % 2 ^ k) (sym e)

-- one byte
pub put_byte : (s : List ℕ) (i b : ℕ) → Bytes s → b < 256 → i < length s → Put s (set s i b) (8 * i) 8 b
put_byte s i b h l k = record {
  same = length-set s i b;
  low =
      ap (λ (x : ℕ). number (set s i b) % 2 ^ x) (add_comm (8 * i) 8)
      ∙ mod-pow-add (number (set s i b)) 8 (8 * i)
      ∙ ap₂ (λ (x y : ℕ). x * 2 ^ (8 * i) + y)
      (byte_at (set s i b) i (bytes-set s i b h l) ∙ get_or-set_same s i b 0 k)
      (below_set s i b h);
}

-- one field after another
pub put_then : (s t u : List ℕ) (at w w' v v' : ℕ) → Put s t at w v → Put t u (at + w) w' v' → Put s u at (w + w') (v' * 2 ^ w + v)
put_then s t u at w w' v v' p q = record {
  same = q.same ∙ p.same;
  low =
      ap (λ (x : ℕ). number u % 2 ^ x) (sym (add_assoc at w w'))
      ∙ q.low
      ∙ ap₂ (λ (x y : ℕ). x + y)
      (ap (λ (x : ℕ). v' * x) (ap (λ (x : ℕ). 2 ^ x) (add_comm at w) ∙ pow-add 2 w at) ∙ sym (mul_assoc v' (2 ^ w) (2 ^ at)))
      p.low
      ∙ sym (add_assoc (v' * 2 ^ w * 2 ^ at) (v * 2 ^ at) (number s % 2 ^ at))
      ∙ ap (λ (x : ℕ). x + number s % 2 ^ at) (sym (add-mul (v' * 2 ^ w) v (2 ^ at)));
}

-- fewer bits
pub put-cut : (s t : List ℕ) (at m w y : ℕ) → w ≤ m → Put s t at m y → Put s t at w (y % 2 ^ w)
put-cut s t at m w y h p = record {
  same = p.same;
  low =
      sym (mod-le-pow (number t) (at + w) (at + m) (omega arith))
      ∙ ap (λ (x : ℕ). x % 2 ^ (at + w)) p.low
      ∙ ap (λ (x : ℕ). (y * 2 ^ at + number s % 2 ^ at) % 2 ^ x) (add_comm at w)
      ∙ parts-mod y at w (number s % 2 ^ at) (mod-lt (number s) (pow_pos at));
}

-- the low bits that stood there already need not be counted
pub put-inside : (s t : List ℕ) (a k w v : ℕ) → Put s t a (k + w) (v * 2 ^ k + number s / 2 ^ a % 2 ^ k) → Put s t (a + k) w v
put-inside s t a k w v p =
    let q : ℕ = number s / 2 ^ a % 2 ^ k in
    record {
      same = p.same;
      low =
          ap (λ (x : ℕ). number t % 2 ^ x) (add_assoc a k w)
          ∙ p.low
          ∙ ap (λ (x : ℕ). x + number s % 2 ^ a) (add-mul (v * 2 ^ k) q (2 ^ a) ∙ ap (λ (x : ℕ). x + q * 2 ^ a) (mul_assoc v (2 ^ k) (2 ^ a) ∙ ap (λ (x : ℕ). v * x) (sym (pow-add 2 k a))))
          ∙ add_assoc (v * 2 ^ (k + a)) (q * 2 ^ a) (number s % 2 ^ a)
          ∙ ap (λ (x : ℕ). v * 2 ^ (k + a) + x) (sym (mod-pow-add (number s) k a))
          ∙ ap (λ (x : ℕ). v * 2 ^ x + number s % 2 ^ x) (add_comm k a);
    }

-- from a whole number of bytes to the field: y holds v at bit k over what stood there
pub put-field-law : (s t : List ℕ) (a k w v m y : ℕ) → v < 2 ^ w → k + w ≤ m → y % 2 ^ (k + w) ≡ (v * 2 ^ k + number s / 2 ^ a % 2 ^ k) % 2 ^ (k + w) → Put s t a m y → Put s t (a + k) w v
put-field-law s t a k w v m y hv h e p =
    let q : ℕ = number s / 2 ^ a % 2 ^ k in
    let b : v * 2 ^ k + q < 2 ^ (k + w) =
    subst (λ (x : ℕ). v * 2 ^ k + q < x) (sym (pow-add 2 w k) ∙ ap (λ (x : ℕ). 2 ^ x) (add_comm w k)) (digits_lt hv (mod-lt (number s / 2 ^ a) (pow_pos k))) in
    put-inside s t a k w v (subst (λ (x : ℕ). Put s t a (k + w) x) (e ∙ mod-eq_of_lt b) (put-cut s t a m (k + w) y h p))

-- ---- the k low bytes of a number from byte i on

put-none : (s : List ℕ) (i x : ℕ) → Put s s (8 * i) 0 (x % 2 ^ 0)
put-none s i x = record {
  same = refl;
  low =
      ap (λ (k : ℕ). number s % 2 ^ k) (add-zero (8 * i))
      ∙ sym (ap (λ (y : ℕ). y * 2 ^ (8 * i) + number s % 2 ^ (8 * i)) (mod-one x) ∙ ap (λ (y : ℕ). y + number s % 2 ^ (8 * i)) (zero-mul (2 ^ (8 * i))) ∙ zero-add (number s % 2 ^ (8 * i)));
}

pub put-bytes : (k : ℕ) (s : List ℕ) (i x : ℕ) → Bytes s → i + k ≤ length s → Put s (sets s i (bytes_of k x)) (8 * i) (8 * k) (x % 2 ^ (8 * k))
unfolding bytes_of
put-bytes zero s i x h l = put-none s i x
put-bytes (suc k) s i x h l =
    let t : List ℕ = sets s i (bytes_of k x) in
    let b : ℕ = x / 2 ^ (8 * k) % 256 in
    let u : List ℕ = set t (i + k) b in
    let f : 8 * (i + k) ≡ 8 * i + 8 * k = omega arith in
    let g : 8 * k + 8 ≡ 8 * suc k = omega arith in
    let g' : 8 + 8 * k ≡ 8 * suc k = omega arith in
    let p : Put t u (8 * i + 8 * k) 8 b =
    subst (λ (j : ℕ). Put t u j 8 b) f
    (put_byte t (i + k) b (bytes-sets (bytes_of k x) s i h (bytes-bytes_of k x)) (omega arith) (omega (arith, length-sets s i (bytes_of k x)))) in
    let q : Put s u (8 * i) (8 * k + 8) (b * 2 ^ (8 * k) + x % 2 ^ (8 * k)) =
    put_then s t u (8 * i) (8 * k) 8 (x % 2 ^ (8 * k)) b (put-bytes k s i x h (omega arith)) p in
    let v : b * 2 ^ (8 * k) + x % 2 ^ (8 * k) ≡ x % 2 ^ (8 * suc k) = sym (mod-pow-add x 8 (8 * k)) ∙ ap (λ (j : ℕ). x % 2 ^ j) g' in
    rw (sets_more k s i x) (rw (← v, ← g) q)

-- ---- what a store of a field leaves

-- the number whose bytes are stored
abbrev whole : List ℕ → ℕ → ℕ → ℕ
whole s at v = v * 2 ^ (at % 8) + number s / 2 ^ (8 * (at / 8)) % 2 ^ (at % 8)

pub length-put : (s : List ℕ) (at v : ℕ) → length (put_field s at v) ≡ length s
unfolding put_field
length-put s at v = length-sets s (at / 8) (bytes_of 9 (whole s at v))

pub bytes-put : (s : List ℕ) (at v : ℕ) → Bytes s → Bytes (put_field s at v)
unfolding put_field
bytes-put s at v h = bytes-sets (bytes_of 9 (whole s at v)) s (at / 8) h (bytes-bytes_of 9 (whole s at v))

module _ (s : List ℕ) (at w v : ℕ) (h : Bytes s) (hw : w ≤ 64) (hv : v < 2 ^ w) (fits : at + w ≤ 8 * length s) where
  abbrev y : ℕ
  y = whole s at v

  -- m bytes are there, and they hold the field
  some : (m : ℕ) → at % 8 + w ≤ 8 * m → at / 8 + m ≤ length s → sets s (at / 8) (bytes_of m y) ≡ put_field s at v → Put s (put_field s at v) at w v
  some m hm l e =
      let back : 8 * (at / 8) + at % 8 ≡ at = omega arith in
      subst (λ (x : ℕ). Put s (put_field s at v) x w v) back
      (put-field-law s (put_field s at v) (8 * (at / 8)) (at % 8) w v (8 * m) (y % 2 ^ (8 * m)) hv hm (mod-le-pow y (at % 8 + w) (8 * m) hm)
      (subst (λ (t : List ℕ). Put s t (8 * (at / 8)) (8 * m) (y % 2 ^ (8 * m))) e (put-bytes m s (at / 8) y h l)))

  -- nine bytes are there, or fewer
  by : (t : Bool) → leb (at / 8 + 9) (length s) ≡ t → Put s (put_field s at v) at w v
  unfolding put_field
  by true e = some 9 (omega arith) (leb-true (at / 8 + 9) (length s) e) refl
  by false e =
      let l : length s < at / 8 + 9 = leb-false (at / 8 + 9) (length s) e in
      let m : ℕ = length s - at / 8 in
      let n : m + (9 - m) ≡ 9 = omega arith in
      some m (omega arith) (omega arith) (sym (sets-past (9 - m) m s (at / 8) y (omega arith)) ∙ ap (λ (j : ℕ). sets s (at / 8) (bytes_of j y)) n)

  -- v stands in its w bits, and below it what stood there
  pub put-field : Put s (put_field s at v) at w v
  put-field = by (leb (at / 8 + 9) (length s)) refl
