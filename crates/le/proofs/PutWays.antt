-- The two ways of `put_field`: the word and the ninth byte, or the last bytes, that it stores are those of `put_field`. Assumes nothing.
use mathlib.Core.Path.{◌≡◌, sym, ap, ◌∙◌, subst}
use mathlib.Core.List.{List}
use Prim.Native.Nat.{ℕ, ◌+◌, ◌-◌, ◌*◌, ◌/◌, ◌%◌, ◌^◌, ◌≤◌, ◌<◌}
use native.Mathlib.Nat.{mod-lt, lt_of_lt_of_le}
use native.Mathlib.Omega.{arith}
use lib.ListN.{length, set}
use lib.Seq.{sets}
use lib.Bits.{bit_or, or_lt}
use lib.Pow.{pow_pos, pow_mono, high, low}
use Rattle.le.specs.Number.{number, bytes_of}
use Rattle.le.specs.Put.{put_field}
use Rattle.le.proofs.Fields.{mod-le-pow, lo-law, whole-law, top-law}
use Rattle.le.proofs.Bytes.{bytes_of_mod}
use Rattle.le.proofs.Stores.{store-more, sets-past}

module _ (s : List ℕ) (at v keep old : ℕ) (hv : v < 2 ^ 64) (ho : old ≡ number s / 2 ^ (8 * (at / 8)) % 2 ^ 8) (hkeep : keep ≡ old % 2 ^ (at % 8)) where
  abbrev k : ℕ
  k = at % 8

  -- what stood below the place in its byte
  abbrev q : ℕ
  q = number s / 2 ^ (8 * (at / 8)) % 2 ^ k

  -- the number whose bytes `put_field` stores, and its parts: the word and the ninth byte
  abbrev y : ℕ
  y = v * 2 ^ k + q

  abbrev lo : ℕ
  lo = bit_or ((v * 2 ^ (at % 8)) % 2 ^ 64) keep

  abbrev hi : ℕ
  hi = v / 2 ^ (64 - k)

  hk : k < 8
  hk = omega arith

  kq : keep ≡ q
  kq = hkeep ∙ ap (λ (x : ℕ). x % 2 ^ k) ho ∙ mod-le-pow (number s / 2 ^ (8 * (at / 8))) k 8 (omega arith)

  whole : y ≡ hi * 2 ^ 64 + lo
  whole =
      sym (ap (λ (x : ℕ). hi * 2 ^ 64 + x) (ap (bit_or ((v * 2 ^ k) % 2 ^ 64)) kq ∙ lo-law v k hk q (mod-lt (number s / 2 ^ (8 * (at / 8))) (pow_pos k)))
      ∙ whole-law v k hk q)

  keep-lt : keep < 2 ^ 64
  keep-lt = subst (λ (x : ℕ). x < 2 ^ 64) (sym hkeep) (lt_of_lt_of_le (mod-lt old (pow_pos k)) (pow_mono {j = 64} (omega arith)))

  lo-lt : lo < 2 ^ 64
  lo-lt = or_lt 64 ((v * 2 ^ k) % 2 ^ 64) keep (mod-lt (v * 2 ^ k) (pow_pos 64)) keep-lt

  word : bytes_of 8 lo ≡ bytes_of 8 y
  word = ap (bytes_of 8) (sym (ap (λ (x : ℕ). x % 2 ^ 64) whole ∙ low hi 64 lo-lt)) ∙ bytes_of_mod 8 y

  ninth : hi ≡ y / 2 ^ 64 % 256
  ninth = sym (ap (λ (x : ℕ). x / 2 ^ 64 % 256) whole ∙ ap (λ (x : ℕ). x % 256) (high hi 64 lo-lt) ∙ top-law v k hk hv)

  pub put-fast : (t : List ℕ) (b : ℕ) → b ≡ v / 2 ^ (64 - at % 8) → t ≡ sets s (at / 8) (bytes_of 8 (bit_or ((v * 2 ^ (at % 8)) % 2 ^ 64) keep))
      → set t (at / 8 + 8) b ≡ put_field s at v
  unfolding put_field
  put-fast t b hb ht = store-more 8 s t (at / 8) y b (hb ∙ ninth) (ht ∙ ap (sets s (at / 8)) word)

  pub put-slow : (t : List ℕ) → length s ≤ at / 8 + 8 → t ≡ sets s (at / 8) (bytes_of 8 (bit_or ((v * 2 ^ (at % 8)) % 2 ^ 64) keep)) → t ≡ put_field s at v
  unfolding put_field
  put-slow t l ht = ht ∙ ap (sets s (at / 8)) word ∙ sym (sets-past 1 8 s (at / 8) y l)
