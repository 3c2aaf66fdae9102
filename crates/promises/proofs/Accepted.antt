-- Nothing is invented or lost: reading accepts bytes exactly when they are a column of the list that it gives back, at some width and with
-- some choice of full values where steps would have fitted. Over the pattern size P; the services take 64. Assumes nothing.
use mathlib.Core.Path.{◌≡◌, refl, sym, ap, ap₂, ◌∙◌, subst}
use mathlib.Core.List.{List, [], ◌∷◌}
use mathlib.Core.Bool.{Bool, true, false}
use Prim.Native.Nat.{ℕ, ◌+◌, ◌-◌, ◌/◌, ◌%◌, ◌^◌, ◌≤◌, ◌<◌}
use native.Mathlib.Nat.{le_of_eq, add_assoc, div-one, mod-lt, mod-eq_of_lt}
use lib.Dec.{eqb}
use lib.ListN.{length, get_or, drop_of_length-le}
use lib.Pow.{pow_pos}
use borrow.Author.Tests.{leb-true, eqb-true, eqb-false}
use Rattle.answer.specs.Outcome.{ok}
use Rattle.answer.proofs.Outcomes.{need-ok}
use Rattle.le.specs.Number.{number, bytes_of, field, Fits, Bytes}
use Rattle.le.proofs.Numbers.{byte_at}
use Rattle.le.proofs.Bytes.{bytes-number}
use Rattle.entry.specs.Fields.{Fld, fld, pack, bits}
use Rattle.le.proofs.Fitting.{fits-none, fits_more}
use Rattle.entry.specs.Entry.{values}
use Rattle.entry.proofs.Reading.{Said, said_all, in-front}
use Rattle.column.specs.Column.{whole, as_bytes, column_with, IsColumn, column_none, column_some}
use Rattle.column.specs.Read.{said_by, end_of, decode_of, read_of}
use Rattle.column.proofs.Decoding.{Opened, some-ok, none-ok, scratch-ok}
use Rattle.promises.specs.Holding.{ColumnHolds}
use Rattle.promises.proofs.RoundTrip.{reads-column}

-- what holds a list is read as that list
pub held-read : (P : ℕ) (s : List ℕ) (n room : ℕ) (vs : List ℕ) → P < 256 → ColumnHolds P s n room vs → read_of P s n room ≡ ok vs
held-read P s n room vs hP h =
    let c : length vs ≡ n = h.count in
    subst (λ (k : ℕ). read_of P s k room ≡ ok vs) c (reads-column P room hP h.patterns h.column (rw c h.few) (rw c h.enough))

-- ---- what is read is held

-- bytes from which n > 0 values were decoded are those of their fields
module _ (P : ℕ) (s : List ℕ) (n : ℕ) (vs : List ℕ) (hp : 0 < P) (hb : Bytes s) (o : Opened P s n vs) where
  abbrev b : ℕ
  b = number s

  abbrev w : ℕ
  w = get_or s 0 0

  abbrev f : ℕ
  f = field (number s) 8 P

  read-said : Said P (number s) (get_or s 0 0) (8 + P) (field (number s) 8 P) (n - 1)
  read-said = said_all P (number s) (get_or s 0 0) (n - 1) (8 + P) (field (number s) 8 P) o.narrow hp (mod-lt (number s / 2 ^ 8) (pow_pos P))

  fs : List Fld
  fs = read-said.fields

  end-bits : end_of P s n ≡ bits (column_with P (get_or s 0 0) (field (number s) 8 P) fs)
  unfolding end_of bits fs
  end-bits = read-said.ends ∙ add_assoc 8 P (bits read-said.fields)

  width-field : field (number s) 0 8 ≡ get_or s 0 0
  width-field = byte_at s 0 hb

  same_number : number s ≡ pack (column_with P (get_or s 0 0) (field (number s) 8 P) fs)
  unfolding bits pack fs
  same_number =
      let l : number s < 2 ^ (8 + (P + bits read-said.fields)) = subst (λ (k : ℕ). number s < 2 ^ k) end-bits o.zero_fill in
      sym (mod-eq_of_lt l) ∙ sym (ap (λ (x : ℕ). x % 2 ^ (8 + (P + bits read-said.fields))) (div-one (number s)))
      ∙ in-front (number s) 0 8 (get_or s 0 0) (fld (field (number s) 8 P) P ∷ read-said.fields) width-field
      (in-front (number s) 8 P (field (number s) 8 P) read-said.fields refl read-said.there)

  same_bytes : as_bytes (column_with P (get_or s 0 0) (field (number s) 8 P) fs) ≡ s
  unfolding as_bytes
  same_bytes = ap₂ (λ (k x : ℕ). bytes_of k x) (ap whole (sym end-bits) ∙ o.whole_way) (sym same_number) ∙ bytes-number s hb

  opened-column : IsColumn P s vs
  unfolding said_by fs
  opened-column = subst (λ (l : List ℕ). IsColumn P s l) o.list (subst (λ (x : List ℕ). IsColumn P x (said_by P s n)) same_bytes (column_some o.narrow read-said.says))

  opened-fits : Fits P vs
  unfolding said_by
  opened-fits = subst (Fits P) o.list (fits_more P (field (number s) 8 P) (values P (number s) (get_or s 0 0) (n - 1) (8 + P) (field (number s) 8 P)) (mod-lt (number s / 2 ^ 8) (pow_pos P)) read-said.fits)

pub read_held : (P : ℕ) (s : List ℕ) (n room : ℕ) (vs : List ℕ) → 0 < P → Bytes s → read_of P s n room ≡ ok vs → ColumnHolds P s n room vs
unfolding read_of
read_held P s n room vs hp hb h =
    let p = need-ok _ _ _ _ h in
    let q = need-ok _ _ _ _ p.1 in
    held (leb-true _ _ p.0) (leb-true _ _ q.0) q.1
  where
    held : n ≤ 2048 → n ≤ room → decode_of P s n ≡ ok vs → ColumnHolds P s n room vs
    held h3 h2 d = go (eqb n 0) refl
      where
        count : length vs ≡ n
        count = (scratch-ok P s n [] vs d).0

        go : (t : Bool) → eqb n 0 ≡ t → ColumnHolds P s n room vs
        go true e =
            let r = none-ok P s n vs (eqb-true _ _ e) d in
            let sq : s ≡ [] = drop_of_length-le s {i = 0} (le_of_eq r.0) in
            record { column = rw (sq, r.1) column_none; patterns = rw r.1 (fits-none P); count = count; few = h3; enough = h2 }
        go false e =
            let o = some-ok P s n vs (eqb-false _ _ e) d in
            record { column = opened-column P s n vs hp hb o; patterns = opened-fits P s n vs hp hb o; count = count; few = h3; enough = h2 }
