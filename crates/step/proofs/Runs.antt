-- From a fresh position the run of single calls is the column read with room for N: the same values, the same end or refusal; and where bits
-- are lacking, the values before are those that the entries say, as many as the index of the value that lacks them. Over the pattern size P.
-- Assumes nothing.
use mathlib.Core.Path.{◌≡◌, refl, sym, ap, ap₂, ◌∙◌}
use mathlib.Core.Logic.{◌⊎◌, inl, inr, ⊎_elim}
use mathlib.Core.List.{List, [], ◌∷◌}
use mathlib.Core.Bool.{Bool, true, false}
use Prim.Native.Nat.{ℕ, zero, suc, ◌+◌, ◌-◌, ◌*◌, ◌^◌, ◌≤◌, ◌<◌}
use native.Mathlib.Nat.{mul-suc, mul-le-mul_right}
use native.Mathlib.Decide.{dec_le}
use native.Mathlib.Omega.{arith}
use lib.Dec.{leb, ltb}
use lib.ListN.{length, get_or, take}
use lib.Seq.{take-length}
use borrow.Author.Tests.{leb-true, leb-false, ltb-true, ltb-false}
use Rattle.answer.specs.Table as Table
use Rattle.answer.specs.Refusal.{because, at_value}
use Rattle.answer.specs.declared.Refusal.{Refusal}
use Rattle.answer.specs.Outcome.{refused, ok}
use Rattle.answer.proofs.Outcomes.{never, ok-inj}
use Rattle.le.specs.Number.{number, field}
use Rattle.entry.specs.Entry.{size_at, value_at, after, values}
use Rattle.entry.proofs.Reading.{size-le, after-le, after-mono, take-values, length-values}
use Rattle.column.specs.declared.Position.{Position}
use Rattle.column.specs.Column.{whole}
use Rattle.column.proofs.Holding.{within-one, held_none, held-some}
use Rattle.column.specs.Read.{said_by, end_of, entries_within, held_of, end_rules, decode_of, read_of}
use Rattle.column.proofs.Decoding.{ending-over, ending-fill, ending-good, decode-zero, decode-empty, decode-wide, decode-few, decode-ending, read-many, read-decode, ending-ok}
use Rattle.step.specs.Step.{end, position, first_call, later_call, step_of, answer_with}
use Rattle.step.specs.Run.{Run, follow, run_from, EndsAs, Runs}
use Rattle.step.proofs.Calls.{first-none, first-empty, first-wide, first_short, first-value, later-end, later-short, later-value, next-many, next-first, next-later}

-- ---- the end, judged by a call and by the whole read

-- what the rules of the end come to
pub data Judged (s : List ℕ) (e : ℕ) : Type 0 where
  good : length s ≤ whole e → number s < 2 ^ e → Judged s e
  over : whole e < length s → Judged s e
  fill : length s ≤ whole e → 2 ^ e ≤ number s → Judged s e

judge : (s : List ℕ) (e : ℕ) → Judged s e
judge s e = go (leb (length s) (whole e)) refl (ltb (number s) (2 ^ e)) refl
  where
    go : (t : Bool) → leb (length s) (whole e) ≡ t → (u : Bool) → ltb (number s) (2 ^ e) ≡ u → Judged s e
    go true p true q = good (leb-true (length s) (whole e) p) (ltb-true _ _ q)
    go true p false q = fill (leb-true (length s) (whole e) p) (ltb-false _ _ q)
    go false p u q = over (leb-false (length s) (whole e) p)

-- a call that judges the end gives no value, and ends as the read does
module _ (s : List ℕ) (n e : ℕ) (p : Position) (l : List ℕ) (go : Position → Run) where
  ends-none : (follow (answer_with p (end_rules s n e (ok end))) go).got ≡ []
  unfolding answer_with
  ends-none = by (judge s e)
    where
      by : Judged s e → (follow (answer_with p (end_rules s n e (ok end))) go).got ≡ []
      by (good a b) = rw (ending-good s n e (ok end) a b)
      by (over a) = rw (ending-over s n e (ok end) a)
      by (fill a b) = rw (ending-fill s n e (ok end) a b)

  ends_as : EndsAs (end_rules s n e (ok l)) (follow (answer_with p (end_rules s n e (ok end))) go).last
  unfolding answer_with
  ends_as = by (judge s e)
    where
      by : Judged s e → EndsAs (end_rules s n e (ok l)) (follow (answer_with p (end_rules s n e (ok end))) go).last
      by (good a b) = rw (ending-good s n e (ok end) a b, ending-good s n e (ok l) a b) tt
      by (over a) = rw (ending-over s n e (ok end) a, ending-over s n e (ok l) a) refl
      by (fill a b) = rw (ending-fill s n e (ok end) a b, ending-fill s n e (ok l) a b) refl

-- ---- later calls

-- what the run gives where g of n values were given and k are to come, after the value a, from a place within the bytes: all of them, or those
-- before the one that lacks bits, whose index it tells
pub data Goes (P : ℕ) (s : List ℕ) (n w k at g a : ℕ) (r : Run) : Type 0 where
  all : after P (number s) w k at ≤ 8 * length s → r.got ≡ values P (number s) w k at a
      → ((l : List ℕ) → EndsAs (end_rules s n (after P (number s) w k at) (ok l)) r.last) → Goes P s n w k at g a r
  some : (j i : ℕ) → j < k → i ≡ g + j → r.got ≡ values P (number s) w j at a → after P (number s) w j at ≤ 8 * length s → 8 * length s < after P (number s) w (suc j) at
      → EndsAs (refused (at_value i (because Table.bits))) r.last → Goes P s n w k at g a r

within : (x y : ℕ) → (x ≤ y) ⊎ (y < x)
within x y = elim (dec_le x y) [ yes l ↦ inl l | no l ↦ inr (omega arith) ]

module _ (P : ℕ) (s : List ℕ) (n : ℕ) (hn : n ≤ 2048) (w : ℕ) (hw : w ≤ P) where
  -- one value more, in front
  one_more : (k at g a : ℕ) (q r : Run) → q ≡ record { got = value_at P (number s) w at a ∷ r.got; last = r.last }
      → Goes P s n w k (at + size_at P (number s) w at) (g + 1) (value_at P (number s) w at a) r → Goes P s n w (suc k) at g a q
  unfolding values after
  one_more k at g a q r e (all h y f) = rw e (all h (ap (λ (l : List ℕ). value_at P (number s) w at a ∷ l) y) f)
  one_more k at g a q r e (some j i l d y h m f) = rw e (some (suc j) i (omega arith) (omega arith) (ap (λ (x : List ℕ). value_at P (number s) w at a ∷ x) y) h m f)

  pub goes : (k at g a : ℕ) → g + k ≡ n → 0 < g → at + (P + P) * k < 2 ^ 64 → at ≤ 8 * length s → Goes P s n w k at g a (run_from P s n (suc k) (position at g w a))
  unfolding run_from values after answer_with
  goes zero at g a e hg hb hl =
      let c : step_of P s n (position at g w a) ≡ end_rules s n at (ok end) =
      next-later P s n (position at g w a) hn (λ (z : g ≡ 0). omega arith) ∙ later-end P s n (position at g w a) hw hl (omega arith) in
      all hl
      (rw c (ends-none s n at (position at g w a) [] (run_from P s n 0)))
      (λ l. rw c (ends_as s n at (position at g w a) l (run_from P s n 0)))
  goes (suc k) at g a e hg hb hl =
      let z : ℕ = size_at P (number s) w at in
      let m : (P + P) * suc k ≡ (P + P) * k + (P + P) = mul-suc (P + P) k in
      let sz : size_at P (number s) w at ≤ P + P = size-le P (number s) w at hw in
      ⊎_elim
      (λ (l : at + size_at P (number s) w at ≤ 8 * length s).
      value-way l (goes k (at + size_at P (number s) w at) (g + 1) (value_at P (number s) w at a) (omega arith) (omega arith) (omega arith) l))
      (λ (l : 8 * length s < at + size_at P (number s) w at). short-way l)
      (within (at + size_at P (number s) w at) (8 * length s))
    where
      later : step_of P s n (position at g w a) ≡ later_call P s n (position at g w a)
      later = next-later P s n (position at g w a) hn (λ (z : g ≡ 0). omega arith)

      fits : at + size_at P (number s) w at < 2 ^ 64
      fits = omega (arith, size-le P (number s) w at hw, mul-suc (P + P) k)

      value-way : at + size_at P (number s) w at ≤ 8 * length s
          → Goes P s n w k (at + size_at P (number s) w at) (g + 1) (value_at P (number s) w at a) (run_from P s n (suc k) (position (at + size_at P (number s) w at) (g + 1) w (value_at P (number s) w at a)))
          → Goes P s n w (suc k) at g a (run_from P s n (suc (suc k)) (position at g w a))
      value-way l r =
          let q = later ∙ later-value P s n (position at g w a) hw hl (omega arith) l fits in
          one_more k at g a _ _ (rw q refl) r

      short-way : 8 * length s < at + size_at P (number s) w at → Goes P s n w (suc k) at g a (run_from P s n (suc (suc k)) (position at g w a))
      short-way l =
          let q = later ∙ later-short P s n (position at g w a) hw hl (omega arith) l in
          some 0 g (omega arith) (omega arith) (rw q refl) hl l (rw q refl)

-- ---- from a fresh position

-- where the first call is refused as the column is
refused-run : (P : ℕ) (s : List ℕ) (n : ℕ) (p : Position) (w : Refusal) → step_of P s n p ≡ refused w → read_of P s n n ≡ refused w → Runs P s n (run_from P s n (suc n) p)
unfolding run_from answer_with
refused-run P s n p w e h = record {
  ends = rw (e, h) refl;
  reads = λ l q. absurd (never (sym h ∙ q));
  says = rw e;
  lacks = λ g q. absurd (let z : ◌≡◌ {A = ℕ} 0 (suc g) = rw e at q in omega arith);
}

-- no values to come
empty-run : (P : ℕ) (s : List ℕ) (p : Position) → p.given ≡ 0 → Runs P s 0 (run_from P s 0 1 p)
unfolding run_from
empty-run P s p e =
    let c : step_of P s 0 p ≡ end_rules s 0 0 (ok end) = next-first P s 0 p (omega arith) e ∙ first-none P s 0 refl in
    let d : read_of P s 0 0 ≡ end_rules s 0 0 (ok []) = read-decode P s 0 0 (omega arith) (omega arith) ∙ decode-zero P s 0 refl in
    let g : (run_from P s 0 1 p).got ≡ [] = rw c (ends-none s 0 0 p [] (run_from P s 0 0)) in
    record {
      ends = rw (c, d) (ends_as s 0 0 p [] (run_from P s 0 0));
      reads = λ l q. g ∙ ok-inj (ending-ok s 0 0 (ok []) l (sym d ∙ q)).2;
      says = rw g;
      lacks = λ k q h. absurd (omega arith);
    }

-- values to come
module _ (P : ℕ) (s : List ℕ) (m : ℕ) (hn : suc m ≤ 2048) (hP : P ≤ 64) (p : Position) (hp : p.given ≡ 0) where
  h0 : suc m ≡ 0 → ⊥
  h0 e = omega arith

  less : suc m - 1 ≡ m
  less = omega arith

  fresh : step_of P s (suc m) p ≡ first_call P s (suc m)
  fresh = next-first P s (suc m) p hn hp

  reading : read_of P s (suc m) (suc m) ≡ decode_of P s (suc m)
  reading = read-decode P s (suc m) (suc m) hn (omega arith)

  no_bytes : length s ≡ 0 → Runs P s (suc m) (run_from P s (suc m) (suc (suc m)) p)
  no_bytes l = refused-run P s (suc m) p (because Table.bits) (fresh ∙ first-empty P s (suc m) h0 l) (reading ∙ decode-empty P s (suc m) h0 l)

  module _ (hs : length s ≡ 0 → ⊥) where
    too_wide : P < get_or s 0 0 → Runs P s (suc m) (run_from P s (suc m) (suc (suc m)) p)
    too_wide l = refused-run P s (suc m) p (because Table.width) (fresh ∙ first-wide P s (suc m) h0 hs l) (reading ∙ decode-wide P s (suc m) h0 hs l)

    module _ (hw : get_or s 0 0 ≤ P) where
      abbrev w : ℕ
      w = get_or s 0 0

      abbrev v : ℕ
      v = field (number s) 8 P

      abbrev place : ℕ → ℕ
      place k = after P (number s) (get_or s 0 0) k (8 + P)

      end-place : end_of P s (suc m) ≡ after P (number s) (get_or s 0 0) m (8 + P)
      unfolding end_of
      end-place = rw less

      closing : after P (number s) (get_or s 0 0) m (8 + P) ≤ 8 * length s
          → read_of P s (suc m) (suc m) ≡ end_rules s (suc m) (after P (number s) (get_or s 0 0) m (8 + P)) (ok (said_by P s (suc m)))
      closing l = reading ∙ decode-ending P s (suc m) h0 hs hw (omega (arith, end-place)) ∙ ap (λ (e : ℕ). end_rules s (suc m) e (ok (said_by P s (suc m)))) end-place

      -- where the entries end past the bytes
      past_bytes : 8 * length s < after P (number s) (get_or s 0 0) m (8 + P) → read_of P s (suc m) (suc m) ≡ refused (at_value (held_of P s (suc m)) (because Table.bits))
      past_bytes l = reading ∙ decode-few P s (suc m) h0 hs hw (omega (arith, end-place))

      first-lacks : 8 * length s < 8 + P → Runs P s (suc m) (run_from P s (suc m) (suc (suc m)) p)
      first-lacks l =
          refused-run P s (suc m) p (because Table.bits) (fresh ∙ first_short P s (suc m) h0 hs hw l)
          (past_bytes (omega (arith, after-le P (number s) (get_or s 0 0) m (8 + P))) ∙ ap (λ (i : ℕ). refused (at_value i (because Table.bits))) (held_none P s (suc m) l))

      module _ (hl : 8 + P ≤ 8 * length s) where
        abbrev rest : Run
        rest = run_from P s (suc m) (suc m) (position (8 + P) 1 (get_or s 0 0) (field (number s) 8 P))

        opening : run_from P s (suc m) (suc (suc m)) p ≡ record { got = field (number s) 8 P ∷ rest.got; last = rest.last }
        unfolding run_from answer_with
        opening = let q = fresh ∙ first-value P s (suc m) h0 hs hw hl in rw q refl

        said : said_by P s (suc m) ≡ field (number s) 8 P ∷ values P (number s) (get_or s 0 0) m (8 + P) (field (number s) 8 P)
        unfolding said_by
        said = rw less

        gone : Goes P s (suc m) (get_or s 0 0) m (8 + P) 1 (field (number s) 8 P) rest → Runs P s (suc m) (record { got = field (number s) 8 P ∷ rest.got; last = rest.last })
        unfolding end_of
        gone (all h g f) =
            let got : field (number s) 8 P ∷ rest.got ≡ said_by P s (suc m) = ap (λ (l : List ℕ). field (number s) 8 P ∷ l) g ∙ sym said in
            let long : length rest.got ≡ m = ap length g ∙ length-values P (number s) (get_or s 0 0) m (8 + P) (field (number s) 8 P) in
            record {
              ends = rw (closing h) (f (said_by P s (suc m)));
              reads = λ l q. got ∙ ok-inj (ending-ok s (suc m) (after P (number s) (get_or s 0 0) m (8 + P)) (ok (said_by P s (suc m))) l (sym (closing h) ∙ q)).2;
              says = got ∙ sym (take-length (said_by P s (suc m))) ∙ ap (λ (y : List ℕ). take (length y) (said_by P s (suc m))) (sym got);
              lacks = λ k q h. absurd (omega arith);
            }
        gone (some j i l d g h x f) =
            let long : length rest.got ≡ j = ap length g ∙ length-values P (number s) (get_or s 0 0) j (8 + P) (field (number s) 8 P) in
            let held : held_of P s (suc m) ≡ suc j =
            held-some P s (suc m) hl ∙ ap (λ (k : ℕ). suc (entries_within P (number s) (get_or s 0 0) (8 * length s) k (8 + P))) less
            ∙ ap suc (within-one P (number s) (get_or s 0 0) (8 * length s) m (8 + P) j l h x) in
            let here : held_of P s (suc m) ≡ i = omega (arith, held, d) in
            let e : read_of P s (suc m) (suc m) ≡ refused (at_value i (because Table.bits)) =
            past_bytes (omega (arith, after-mono P (number s) (get_or s 0 0) (8 + P) (suc j) m (omega arith))) ∙ ap (λ (k : ℕ). refused (at_value k (because Table.bits))) here in
            record {
              ends = rw e f;
              reads = λ y q. absurd (never (sym e ∙ q));
              says =
                  ap (λ (y : List ℕ). field (number s) 8 P ∷ y) (g ∙ sym (take-values P (number s) (get_or s 0 0) (8 + P) (field (number s) 8 P) j m (omega arith)))
                  ∙ ap₂ (λ (i : ℕ) (y : List ℕ). take i y) (ap suc (sym long)) (sym said);
              lacks = λ k q y. lack k (omega (arith, long)) h x;
            }
          where
            lack : (k : ℕ) → k ≡ j → after P (number s) (get_or s 0 0) j (8 + P) ≤ 8 * length s → 8 * length s < after P (number s) (get_or s 0 0) (suc j) (8 + P)
                → (end_of P s (suc k) ≤ 8 * length s) × (8 * length s < end_of P s (suc (suc k)))
            lack k e a b =
                let y : suc k - 1 ≡ j = omega arith in
                let z : suc (suc k) - 1 ≡ suc j = omega arith in
                (rw y a, rw z b)

        begun : Runs P s (suc m) (run_from P s (suc m) (suc (suc m)) p)
        begun =
            rw opening (gone (goes P s (suc m) hn (get_or s 0 0) hw m (8 + P) 1 (field (number s) 8 P) (omega arith) (omega arith) room hl))
          where
            doubled : P + P ≤ 128
            doubled = omega arith

            room : 8 + P + (P + P) * m < 2 ^ 64
            room = omega (arith, mul-le-mul_right m doubled)

pub runs : (P : ℕ) (s : List ℕ) (n : ℕ) (p : Position) → P ≤ 64 → p.given ≡ 0 → Runs P s n (run_from P s n (suc n) p)
runs P s n p hP hp = ⊎_elim (few n) many (within n 2048)
  where
    many : 2048 < n → Runs P s n (run_from P s n (suc n) p)
    many l = refused-run P s n p (because Table.many) (next-many P s n p l) (read-many P s n n l)

    few : (n : ℕ) → n ≤ 2048 → Runs P s n (run_from P s n (suc n) p)
    few zero h = empty-run P s p hp
    few (suc m) h = ⊎_elim width none (within 1 (length s))
      where
        none : length s < 1 → Runs P s (suc m) (run_from P s (suc m) (suc (suc m)) p)
        none l = no_bytes P s m h hP p hp (omega arith)

        width : 1 ≤ length s → Runs P s (suc m) (run_from P s (suc m) (suc (suc m)) p)
        width l =
            let hs : length s ≡ 0 → ⊥ = λ (q : length s ≡ 0). omega arith in
            ⊎_elim (λ (a : get_or s 0 0 ≤ P). ⊎_elim (λ (b : 8 + P ≤ 8 * length s). begun P s m h hP p hp hs a b) (λ (b : 8 * length s < 8 + P). first-lacks P s m h hP p hp hs a b) (within (8 + P) (8 * length s)))
            (λ (a : P < get_or s 0 0). too_wide P s m h hP p hp hs a) (within (get_or s 0 0) P)
