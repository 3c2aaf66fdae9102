-- A column of a list is decoded as that list, whatever the width and whichever values stand in full; so are the bytes at each width, and those
-- that the writer makes, which are not many. Over the pattern size P. Assumes nothing.
use mathlib.Core.Path.{◌≡◌, refl, sym, ap, ap₂, ◌∙◌, subst}
use mathlib.Core.List.{List, [], ◌∷◌}
use Prim.Native.Nat.{ℕ, zero, suc, ◌+◌, ◌-◌, ◌*◌, ◌/◌, ◌%◌, ◌^◌, ◌≤◌, ◌<◌}
use native.Mathlib.Nat.{add_assoc, div-one, lt_of_lt_of_le, mul-suc}
use native.Mathlib.Omega.{arith}
use lib.ListN.{length, get_or}
use lib.Pow.{pow_mono}
use Rattle.answer.specs.Outcome.{ok}
use Rattle.le.specs.Number.{Fits, number, bytes_of, field}
use Rattle.le.proofs.Bytes.{length-bytes_of, number-of-fit}
use Rattle.entry.specs.Fields.{Fld, fld, pack, bits}
use Rattle.entry.specs.Entry.{EntriesSay}
use Rattle.entry.proofs.Fields.{fit_more, pack-lt, first, past}
use Rattle.entry.proofs.Entries.{entries-say, says-fit}
use Rattle.entry.proofs.Reading.{Reads, reads_all}
use Rattle.width.specs.Width.{width_of}
use Rattle.width.proofs.Sizes.{width-least, size-most, length-zs}
use Rattle.column.specs.Column.{whole, as_bytes, column_with, IsColumn, column_none, column_some, column_at, encode_at, encode}
use Rattle.column.specs.Read.{said_by, end_of, end_rules, decode_of}
use Rattle.column.proofs.Decoding.{decode-none, decode-ending, ending-good}
use Rattle.column.proofs.Writing.{column-bits, encode-length, encode-none}

-- ---- one column with values

module _ (P n v : ℕ) (vs : List ℕ) (fs : List Fld) (hn : n ≤ P) (hP : P < 256) (hv : v < 2 ^ P) (hb : Fits P vs) (says : EntriesSay P n v vs fs) where
  c : List Fld
  c = column_with P n v fs

  s : List ℕ
  s = as_bytes (column_with P n v fs)

  n8 : n < 2 ^ 8
  n8 = omega arith

  c_lt : pack (column_with P n v fs) < 2 ^ bits (column_with P n v fs)
  c_lt = pack-lt (fit_more n8 (fit_more hv (says-fit hb says)))

  number-s : number s ≡ pack (column_with P n v fs)
  unfolding s as_bytes
  number-s =
      let l : bits (column_with P n v fs) ≤ 8 * whole (bits (column_with P n v fs)) = omega arith in
      number-of-fit (whole (bits (column_with P n v fs))) (pack (column_with P n v fs)) (lt_of_lt_of_le c_lt (pow_mono l))

  length-s : length s ≡ whole (bits (column_with P n v fs))
  unfolding s as_bytes
  length-s = length-bytes_of (whole (bits (column_with P n v fs))) (pack (column_with P n v fs))

  at0 : number s / 2 ^ 0 ≡ pack (column_with P n v fs)
  at0 = div-one (number s) ∙ number-s

  at8 : number s / 2 ^ 8 ≡ pack (fld v P ∷ fs)
  at8 = past (number s) 0 n 8 (fld v P ∷ fs) n8 at0

  at_first : number s / 2 ^ (8 + P) ≡ pack fs
  at_first = past (number s) 8 v P fs hv at8

  value-first : field (number s) 8 P ≡ v
  value-first = first (number s) 8 v P fs hv at8

  bits-c : bits (column_with P n v fs) ≡ 8 + P + bits fs
  unfolding bits
  bits-c = sym (add_assoc 8 P (bits fs))

  width-s : get_or s 0 0 ≡ n
  unfolding s as_bytes bytes_of
  width-s = byte-first (whole (bits (column_with P n v fs))) (pack (column_with P n v fs)) (omega (arith, bits-c)) ∙ sym (ap (λ (x : ℕ). x % 256) (div-one (number s) ∙ number-s)) ∙ first (number s) 0 n 8 (fld v P ∷ fs) n8 at0
    where
      byte-first : (k x : ℕ) → 0 < k → get_or (bytes_of k x) 0 0 ≡ x % 256
      byte-first zero x h = absurd (omega arith)
      byte-first (suc k) x h = refl

  read_all : Reads P (number s) n (8 + P) v vs fs
  read_all = reads_all P (number s) n (8 + P) v hv hb says at_first

  less_one : suc (length vs) - 1 ≡ length vs
  less_one = omega arith

  said : said_by P s (suc (length vs)) ≡ v ∷ vs
  unfolding said_by
  said = rw (width-s, value-first, less_one) (ap (λ (l : List ℕ). v ∷ l) read_all.got)

  ends : end_of P s (suc (length vs)) ≡ bits (column_with P n v fs)
  unfolding end_of
  ends = rw (width-s, less_one) (read_all.ends ∙ sym bits-c)

  decoded : decode_of P s (suc (length vs)) ≡ ok (v ∷ vs)
  decoded =
      let w : get_or s 0 0 ≤ P = rw width-s hn in
      decode-ending P s (suc (length vs)) (λ q. omega arith) (λ q. omega (arith, length-s, bits-c)) w (omega (arith, ends, length-s))
      ∙ ap₂ (λ (e : ℕ) (l : List ℕ). end_rules s (suc (length vs)) e (ok l)) ends said
      ∙ ending-good s (suc (length vs)) (bits (column_with P n v fs)) (ok (v ∷ vs)) (omega (arith, length-s)) (rw number-s c_lt)

-- ---- what is a column of a list is decoded as that list

pub decodes-column : (P : ℕ) {s vs : List ℕ} → P < 256 → Fits P vs → IsColumn P s vs → decode_of P s (length vs) ≡ ok vs
unfolding s
decodes-column P hP hb column_none = decode-none P [] 0 refl refl (λ i. omega arith)
decodes-column P hP hb (column_some {n = n} {v = v} {vs = vs} {fs = fs} hn says) = decoded P n v vs fs hn hP (hb 0) (λ i. hb (suc i)) says

-- the bytes at width n are a column of the list
pub written-column : (P n : ℕ) (vs : List ℕ) → n ≤ P → IsColumn P (encode_at P n vs) vs
unfolding encode_at column_at
written-column P n [] hn = subst (λ (s : List ℕ). IsColumn P s []) (sym (encode-none P n [] refl)) column_none
written-column P n (v ∷ vs) hn = column_some hn (entries-say P n v vs)

-- and so the writer's are decoded as the list
pub decodes-written : (P : ℕ) (vs : List ℕ) → P < 256 → Fits P vs → decode_of P (encode P vs) (length vs) ≡ ok vs
unfolding encode
decodes-written P vs hP hb = decodes-column P hP hb (written-column P (width_of P vs) vs (width-least P vs).within)

-- ---- and they are not many

-- a column takes at most 8 + PN bits
pub bits_most : (P : ℕ) (vs : List ℕ) → 0 < length vs → bits (column_at P (width_of P vs) vs) ≤ 8 + P * length vs
bits_most P vs h =
    let e : length vs ≡ suc (length vs - 1) = omega arith in
    omega (arith, column-bits P (width_of P vs) vs h, size-most P vs, ap (λ (k : ℕ). P * k) (length-zs P vs), ap (λ (k : ℕ). P * k) e, mul-suc P (length vs - 1))

-- and so at most 1 + 8N bytes
pub bytes_most : (vs : List ℕ) → length (encode 64 vs) ≤ 1 + 8 * length vs
unfolding encode
bytes_most [] = omega (arith, ap length (encode-none 64 (width_of 64 []) [] refl))
bytes_most (v ∷ vs) = omega (arith, encode-length 64 (width_of 64 (v ∷ vs)) (v ∷ vs), bits_most 64 (v ∷ vs) (omega arith))
