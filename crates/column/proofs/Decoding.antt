-- The outcome of reading, one law for each way through it, over the pattern size P; and what the code's tests of the end mean. Assumes nothing.
use mathlib.Core.Path.{◌≡◌, refl, sym, ap, ap₂, ◌∙◌, subst}
use mathlib.Core.List.{List, [], ◌++◌}
use mathlib.Core.Bool.{Bool, true, false}
use Prim.Native.Nat.{ℕ, suc, ◌+◌, ◌-◌, ◌*◌, ◌/◌, ◌%◌, ◌^◌, ◌≤◌, ◌<◌}
use native.Mathlib.Nat.{mod-eq_of_lt, lt_of_lt_of_le, one-mul, div-lt_iff_lt-mul, le-div_iff_mul-le}
use native.Mathlib.Omega.{arith}
use lib.Dec.{leb, eqb}
use lib.ListN.{length, get_or, drop, take}
use lib.Seq.{take_at}
use lib.Pow.{shr_lt, pow_mono, pow_pos}
use borrow.Author.Tests.{le-leb, lt-leb, lt-ltb, le-ltb, eq-eqb, ne_eqb, leb-true, ltb-true, eqb-true, eqb-false}
use Rattle.answer.specs.Table as Table
use Rattle.answer.specs.Refusal.{because, at_value}
use Rattle.answer.specs.Outcome.{Out, refused, ok, answered, Fills}
use Rattle.answer.specs.declared.Refusal.{Refusal}
use Rattle.answer.proofs.Outcomes.{met, unmet, ok-inj, need-ok, fills-refused, fills-ok}
use Rattle.le.specs.Number.{number, field, Bytes}
use Rattle.le.proofs.Numbers.{number_lt}
use Rattle.entry.proofs.Reading.{length-values}
use Rattle.column.specs.Column.{whole}
use Rattle.column.specs.Read.{said_by, end_of, held_of, end_rules, some_of, decode_of, read_of, scratch_of, Decodes}

pub length-said : (P : ℕ) (s : List ℕ) (n : ℕ) → 0 < n → length (said_by P s n) ≡ n
unfolding said_by
length-said P s n h = ap suc (length-values P (number s) (get_or s 0 0) (n - 1) (8 + P) (field (number s) 8 P)) ∙ omega arith

-- ---- the rules of the end

module _ {A : Type 0} (s : List ℕ) (n e : ℕ) (x : Out A) where
  pub ending-over : whole e < length s → end_rules s n e x ≡ refused (at_value n (because Table.bits))
  unfolding end_rules
  ending-over h = unmet _ _ (lt-leb (length s) (whole e) h)

  pub ending-fill : length s ≤ whole e → 2 ^ e ≤ number s → end_rules s n e x ≡ refused (at_value n (because Table.fill))
  unfolding end_rules
  ending-fill h l = met _ _ (le-leb (length s) (whole e) h) ∙ unmet _ _ (le-ltb _ _ l)

  pub ending-good : length s ≤ whole e → number s < 2 ^ e → end_rules s n e x ≡ x
  unfolding end_rules
  ending-good h l = met _ _ (le-leb (length s) (whole e) h) ∙ met _ _ (lt-ltb _ _ l)

-- the 64 bits after the end are all that can be left of the bytes
module _ (s : List ℕ) (e : ℕ) (h : Bytes s) (l : length s ≤ whole e) where
  over : number s / 2 ^ e % 2 ^ 64 ≡ number s / 2 ^ e
  over = mod-eq_of_lt (shr_lt 64 e (lt_of_lt_of_le (number_lt s h) (pow_mono (omega arith))))

  pub fill-zero : number s / 2 ^ e % 2 ^ 64 ≡ 0 → number s < 2 ^ e
  fill-zero z =
      let q : number s / 2 ^ e < 1 = omega (arith, over) in
      subst (λ (x : ℕ). number s < x) (one-mul (2 ^ e)) ((div-lt_iff_lt-mul (pow_pos e)).0 q)

  pub fill-some : (number s / 2 ^ e % 2 ^ 64 ≡ 0 → ⊥) → 2 ^ e ≤ number s
  fill-some z =
      let q : 1 ≤ number s / 2 ^ e = omega (arith, over) in
      subst (λ (x : ℕ). x ≤ number s) (one-mul (2 ^ e)) ((le-div_iff_mul-le (pow_pos e)).0 q)

-- ---- decoding, by its outcome

module _ (P : ℕ) (s : List ℕ) (n : ℕ) where
  pub decode-zero : n ≡ 0 → decode_of P s n ≡ end_rules s 0 0 (ok [])
  unfolding decode_of
  decode-zero e = simp (eq-eqb _ _ e)

  pub decode-none : n ≡ 0 → length s ≡ 0 → Bytes s → decode_of P s n ≡ ok []
  decode-none e l h =
      let z : 8 * length s ≤ 0 = omega arith in
      decode-zero e ∙ ending-good s 0 0 (ok []) (omega arith) (lt_of_lt_of_le (number_lt s h) (pow_mono z))

  pub decode-none-bits : n ≡ 0 → (length s ≡ 0 → ⊥) → decode_of P s n ≡ refused (because Table.bits)
  decode-none-bits e l = decode-zero e ∙ ending-over s 0 0 (ok []) (omega arith)

  module _ (h0 : n ≡ 0 → ⊥) where
    some : decode_of P s n ≡ some_of P s n
    unfolding decode_of
    some = simp (ne_eqb _ _ h0)

    pub decode-empty : length s ≡ 0 → decode_of P s n ≡ refused (because Table.bits)
    unfolding some_of
    decode-empty l = some ∙ unmet _ _ (lt-leb 1 (length s) (omega arith))

    module _ (hs : length s ≡ 0 → ⊥) where
      pub decode-wide : P < get_or s 0 0 → decode_of P s n ≡ refused (because Table.width)
      unfolding some_of
      decode-wide l = some ∙ met _ _ (le-leb 1 (length s) (omega arith)) ∙ unmet _ _ (lt-leb _ _ l)

      module _ (hw : get_or s 0 0 ≤ P) where
        pub decode-few : 8 * length s < end_of P s n → decode_of P s n ≡ refused (at_value (held_of P s n) (because Table.bits))
        unfolding some_of
        decode-few l = some ∙ met _ _ (le-leb 1 (length s) (omega arith)) ∙ met _ _ (le-leb _ _ hw) ∙ unmet _ _ (lt-leb (end_of P s n) (8 * length s) l)

        pub decode-ending : end_of P s n ≤ 8 * length s → decode_of P s n ≡ end_rules s n (end_of P s n) (ok (said_by P s n))
        unfolding some_of
        decode-ending l = some ∙ met _ _ (le-leb 1 (length s) (omega arith)) ∙ met _ _ (le-leb _ _ hw) ∙ met _ _ (le-leb (end_of P s n) (8 * length s) l)

-- ---- the same, where the code has found the place e at which the entries end

module _ (P : ℕ) (s : List ℕ) (n : ℕ) (h0 : n ≡ 0 → ⊥) (hs : length s ≡ 0 → ⊥) (hw : get_or s 0 0 ≤ P) (e : ℕ) (he : e ≡ end_of P s n) where
  at-end : whole e ≤ length s → decode_of P s n ≡ end_rules s n e (ok (said_by P s n))
  at-end l = rw he (decode-ending P s n h0 hs hw (omega (arith, he)))

  pub ended-few : length s < whole e → decode_of P s n ≡ refused (at_value (held_of P s n) (because Table.bits))
  ended-few l = decode-few P s n h0 hs hw (omega (arith, he))

  pub ended-over : whole e < length s → decode_of P s n ≡ refused (at_value n (because Table.bits))
  ended-over l = at-end (omega arith) ∙ ending-over s n e (ok (said_by P s n)) l

  module _ (b : Bytes s) (l : whole e ≡ length s) where
    least : length s ≤ whole e
    least = omega (arith, l)

    pub ended-fill : (number s / 2 ^ e % 2 ^ 64 ≡ 0 → ⊥) → decode_of P s n ≡ refused (at_value n (because Table.fill))
    ended-fill z = at-end (omega (arith, l)) ∙ ending-fill s n e (ok (said_by P s n)) least (fill-some s e b least z)

    pub ended-good : number s / 2 ^ e % 2 ^ 64 ≡ 0 → decode_of P s n ≡ ok (said_by P s n)
    ended-good z = at-end (omega (arith, l)) ∙ ending-good s n e (ok (said_by P s n)) least (fill-zero s e b least z)

-- ---- reading, by its outcome

module _ (P : ℕ) (s : List ℕ) (n size : ℕ) where
  pub read-many : 2048 < n → read_of P s n size ≡ refused (because Table.many)
  unfolding read_of
  read-many h = unmet _ _ (lt-leb _ _ h)

  pub read-room : n ≤ 2048 → size < n → read_of P s n size ≡ refused (because Table.room)
  unfolding read_of
  read-room h l = met _ _ (le-leb _ _ h) ∙ unmet _ _ (lt-leb _ _ l)

  pub read-decode : n ≤ 2048 → n ≤ size → read_of P s n size ≡ decode_of P s n
  unfolding read_of
  read-decode h l = met _ _ (le-leb _ _ h) ∙ met _ _ (le-leb _ _ l)

-- ---- the scratch of a decoding

module _ (P : ℕ) (s : List ℕ) (n : ℕ) (d : List ℕ) where
  scratch-none : n ≡ 0 → d ≡ scratch_of P s n d
  unfolding scratch_of
  scratch-none e = simp (eq-eqb _ _ e)

  scratch-empty : (n ≡ 0 → ⊥) → length s ≡ 0 → d ≡ scratch_of P s n d
  unfolding scratch_of
  scratch-empty h0 l = simp (ne_eqb _ _ h0, eq-eqb _ _ l)

  scratch-wide : (n ≡ 0 → ⊥) → (length s ≡ 0 → ⊥) → P < get_or s 0 0 → d ≡ scratch_of P s n d
  unfolding scratch_of
  scratch-wide h0 hs l = simp (ne_eqb _ _ h0, ne_eqb _ _ hs, lt-ltb _ _ l)

  pub scratch-said : (n ≡ 0 → ⊥) → (length s ≡ 0 → ⊥) → get_or s 0 0 ≤ P → said_by P s n ++ drop n d ≡ scratch_of P s n d
  unfolding scratch_of
  scratch-said h0 hs l = simp (ne_eqb _ _ h0, ne_eqb _ _ hs, le-ltb _ _ l)

  -- ---- what each return of the code shows

  pub decodes-none : n ≡ 0 → length s ≡ 0 → Bytes s → Decodes P s n d (ok 0) d
  unfolding answered
  decodes-none e l h = record { answer = rw (decode-none P s n e l h); scratch = scratch-none e }

  pub decodes-none-bits : n ≡ 0 → (length s ≡ 0 → ⊥) → Decodes P s n d (refused (because Table.bits)) d
  unfolding answered
  decodes-none-bits e l = record { answer = rw (decode-none-bits P s n e l); scratch = scratch-none e }

  module _ (h0 : n ≡ 0 → ⊥) where
    pub decodes-empty : length s ≡ 0 → Decodes P s n d (refused (because Table.bits)) d
    unfolding answered
    decodes-empty l = record { answer = rw (decode-empty P s n h0 l); scratch = scratch-empty h0 l }

    module _ (hs : length s ≡ 0 → ⊥) where
      pub decodes-wide : P < get_or s 0 0 → Decodes P s n d (refused (because Table.width)) d
      unfolding answered
      decodes-wide l = record { answer = rw (decode-wide P s n h0 hs l); scratch = scratch-wide h0 hs l }

      module _ (hw : get_or s 0 0 ≤ P) (e : ℕ) (new : List ℕ) (he : e ≡ end_of P s n) (hn : new ≡ said_by P s n ++ drop n d) where
        left : new ≡ scratch_of P s n d
        left = hn ∙ scratch-said h0 hs hw

        pub decodes-refused : (w : Refusal) → decode_of P s n ≡ refused w → Decodes P s n d (refused w) new
        unfolding answered
        decodes-refused w q = record { answer = rw q; scratch = left }

        module _ (b : Bytes s) (l : whole e ≡ length s) where
          pub decodes-fill : (number s / 2 ^ e % 2 ^ 64 ≡ 0 → ⊥) → Decodes P s n d (refused (at_value n (because Table.fill))) new
          decodes-fill z = decodes-refused _ (ended-fill P s n h0 hs hw e he b l z)

          pub decodes-good : number s / 2 ^ e % 2 ^ 64 ≡ 0 → Decodes P s n d (ok n) new
          unfolding answered
          decodes-good z = record { answer = rw (ended-good P s n h0 hs hw e he b l z) (ap ok (sym (length-said P s n (omega arith)))); scratch = left }

-- ---- where a value comes, what held

pub ending-ok : {A : Type 0} (s : List ℕ) (n e : ℕ) (x : Out A) (a : A) → end_rules s n e x ≡ ok a → (length s ≤ whole e) × (number s < 2 ^ e) × (x ≡ ok a)
unfolding end_rules
ending-ok s n e x a h =
    let p = need-ok (leb (length s) (whole e)) _ _ _ h in
    let q = need-ok _ _ _ _ p.1 in
    (leb-true (length s) (whole e) p.0, ltb-true _ _ q.0, q.1)

-- the bytes from which n > 0 values were decoded
pub record Opened (P : ℕ) (s : List ℕ) (n : ℕ) (l : List ℕ) : Type 0 where
  pub some : 1 ≤ length s
  pub narrow : get_or s 0 0 ≤ P
  pub whole_way : whole (end_of P s n) ≡ length s
  pub zero_fill : number s < 2 ^ end_of P s n
  pub list : said_by P s n ≡ l

pub some-ok : (P : ℕ) (s : List ℕ) (n : ℕ) (l : List ℕ) → (n ≡ 0 → ⊥) → decode_of P s n ≡ ok l → Opened P s n l
unfolding decode_of some_of
some-ok P s n l h0 h =
    let p = need-ok (leb 1 (length s)) _ _ l (simp (ne_eqb _ _ h0) at h) in
    let q = need-ok _ _ _ _ p.1 in
    let t = need-ok (leb (end_of P s n) (8 * length s)) _ _ _ q.1 in
    let r = ending-ok s n (end_of P s n) (ok (said_by P s n)) l t.1 in
    let whole_way : whole (end_of P s n) ≡ length s = omega (arith, r.0, leb-true (end_of P s n) (8 * length s) t.0) in
    record { some = leb-true _ _ p.0; narrow = leb-true _ _ q.0; whole_way = whole_way; zero_fill = r.1; list = ok-inj r.2 }

pub none-ok : (P : ℕ) (s : List ℕ) (n : ℕ) (l : List ℕ) → n ≡ 0 → decode_of P s n ≡ ok l → (length s ≡ 0) × (l ≡ [])
none-ok P s n l e h =
    let r = ending-ok s 0 0 (ok []) l (sym (decode-zero P s n e) ∙ h) in
    (omega (arith, r.0), sym (ok-inj r.2))

-- the scratch then holds the values
pub scratch-ok : (P : ℕ) (s : List ℕ) (n : ℕ) (d l : List ℕ) → decode_of P s n ≡ ok l → (length l ≡ n) × (scratch_of P s n d ≡ l ++ drop n d)
scratch-ok P s n d l h = go (eqb n 0) refl
  where
    go : (t : Bool) → eqb n 0 ≡ t → (length l ≡ n) × (scratch_of P s n d ≡ l ++ drop n d)
    go true e =
        let z : n ≡ 0 = eqb-true _ _ e in
        let r : l ≡ [] = (none-ok P s n l z h).1 in
        (ap length r ∙ sym z, sym (scratch-none P s n d z) ∙ rw (r, z))
    go false e =
        let z : n ≡ 0 → ⊥ = eqb-false _ _ e in
        let o = some-ok P s n l z h in
        let hs : length s ≡ 0 → ⊥ = λ (q : length s ≡ 0). omega (arith, o.some) in
        (ap length (sym o.list) ∙ length-said P s n (omega arith), sym (scratch-said P s n d z hs o.narrow) ∙ ap (λ (x : List ℕ). x ++ drop n d) o.list)

-- ---- from a scratch to the room

module _ {P : ℕ} {s : List ℕ} {n : ℕ} {d own : List ℕ} (room : List ℕ) where
  -- a refusal is passed on, and the room stays
  pub passed-refused : (w : Refusal) → Decodes P s n d (refused w) own → Fills (decode_of P s n) room (refused w) room
  unfolding answered
  passed-refused w h = go (decode_of P s n) refl h.answer
    where
      go : (o : Out (List ℕ)) → decode_of P s n ≡ o → refused w ≡ answered o → Fills (decode_of P s n) room (refused w) room
      go (refused x) e q = let z : w ≡ x = cc in fills-refused w (e ∙ ap refused (sym z))
      go (ok l) e q = absurd (let z : ◌≡◌ {A = ℕ} 0 1 = cc in omega arith)

  -- the values are copied
  pub passed-values : (k : ℕ) (new : List ℕ) → Decodes P s n d (ok k) own → new ≡ take n own ++ drop n room → Fills (decode_of P s n) room (ok k) new
  unfolding answered
  passed-values k new h r = go (decode_of P s n) refl h.answer
    where
      go : (o : Out (List ℕ)) → decode_of P s n ≡ o → ok k ≡ answered o → Fills (decode_of P s n) room (ok k) new
      go (refused x) e q = absurd (let z : ◌≡◌ {A = ℕ} 0 1 = cc in omega arith)
      go (ok l) e q =
          let z : k ≡ length l = cc in
          let o = scratch-ok P s n d l e in
          let t : take n own ≡ l = ap (take n) (h.scratch ∙ o.1) ∙ take_at l (drop n d) n o.0 in
          fills-ok l k new e z (r ∙ ap₂ (λ (x : List ℕ) (j : ℕ). x ++ drop j room) t (sym (z ∙ o.0)))

-- with room for the values, reading is decoding
pub read-passed : (P : ℕ) (s : List ℕ) (n : ℕ) (room : List ℕ) {r : Out ℕ} {new : List ℕ} → n ≤ 2048 → n ≤ length room
    → Fills (decode_of P s n) room r new → Fills (read_of P s n (length room)) room r new
read-passed P s n room h l f = rw (read-decode P s n (length room) h l) f
