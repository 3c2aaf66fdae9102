-- The walk over the shapes that holds their parts against the table: the shapes from i on, with the parts from k on, decide. Assumes nothing.
use mathlib.Core.Path.{◌≡◌, refl, sym, ap, ◌∙◌}
use mathlib.Core.Bool.{true, false, ◌&&◌, false≢true}
use mathlib.Core.List.{List, [], ◌∷◌}
use Prim.Native.Nat.{ℕ, zero, suc, ◌+◌, ◌-◌, ◌≤◌, ◌<◌, zero-le}
use native.Mathlib.Nat.{le_of_suc-le-suc}
use native.Mathlib.Numerals.{add-one}
use native.Mathlib.Omega.{arith}
use borrow.Author.Tests.{leb-true, ne_eqb}
use lib.Dec.{leb, eqb, eqb-suc-suc}
use lib.ListN.{length, get_or, take, drop, length-drop, drop_of_length-le}
use lib.Seq.{drop-cons, drop-drop, take_all}
use Rattle.answer.proofs.Both.{not-true, both_l, both_r, first-fails, then}
use Rattle.types.specs.declared.rows.TypeRow.{TypeRow}
use Rattle.types.specs.Types.{last_type, type_row}
use Rattle.types.specs.Parts.{fits, lengths_fit, row_agrees, shape_agrees, parts_agree}

-- what a row that agrees says
pub row-parts-there : (r : TypeRow) (c : ℕ) (lens : List ℕ) → row_agrees r c lens ≡ true → c ≤ length lens
unfolding row_agrees
row-parts-there r c lens e =
    leb-true c (length lens) (both_l (leb c (length lens)) (lengths_fit r (take c lens)) (both_r (fits r.least_parts r.most_parts c) (leb c (length lens) && lengths_fit r (take c lens)) e))

-- a shape that agrees has its parts among those left
pub parts-there : (t c : ℕ) (lens : List ℕ) → shape_agrees t c lens ≡ true → c ≤ length lens
unfolding shape_agrees
parts-there t c lens e = row-parts-there (type_row t) c lens (both_r (leb t last_type) (row_agrees (type_row t) c lens) e)

-- lists of unequal length never agree
pub agree-even : (types counts lens : List ℕ) → parts_agree types counts lens ≡ true → length types ≡ length counts
unfolding parts_agree
agree-even [] [] lens e = refl
agree-even [] (c ∷ cs) lens e = absurd (false≢true e)
agree-even (t ∷ ts) [] lens e = absurd (false≢true e)
agree-even (t ∷ ts) (c ∷ cs) lens e = ap suc (agree-even ts cs (drop c lens) (both_r (shape_agrees t c lens) (parts_agree ts cs (drop c lens)) e))

pub agree-uneven : (types counts lens : List ℕ) → (length types ≡ length counts → ⊥) → false ≡ parts_agree types counts lens
agree-uneven types counts lens h = sym (not-true (parts_agree types counts lens) (λ (e : parts_agree types counts lens ≡ true). h (agree-even types counts lens e)))

-- ---- the walk

-- a part that goes to the end
pub part_to_end : (k : ℕ) (l : List ℕ) → take (length l - k) (drop k l) ≡ drop k l
part_to_end k l = take_all (length l - k) (drop k l) (omega (arith, length-drop k l))

-- no shape left: no part either
no_part : (l : List ℕ) → eqb 0 (length l) ≡ parts_agree [] [] l
unfolding parts_agree
no_part [] = refl
no_part (n ∷ l) = ne_eqb 0 (length (n ∷ l)) (λ (e : 0 ≡ length (n ∷ l)). omega arith)

no-part-left : (k : ℕ) (lens : List ℕ) → k ≤ length lens → eqb k (length lens) ≡ parts_agree [] [] (drop k lens)
no-part-left zero lens h = no_part lens
no-part-left (suc k) [] h = absurd (omega arith)
no-part-left (suc k) (n ∷ lens) h = eqb-suc-suc k (length lens) ∙ no-part-left k lens (le_of_suc-le-suc h)

-- i shapes are passed, with k parts, and agree
pub record Agreeing (types counts lens : List ℕ) (i k : ℕ) : Type 0 where
  pub passed : k ≤ length lens
  pub rest : parts_agree (drop i types) (drop i counts) (drop k lens) ≡ parts_agree types counts lens

pub agreeing-none : (types counts lens : List ℕ) → Agreeing types counts lens 0 0
agreeing-none types counts lens = record { passed = zero-le; rest = refl }

module _ (types counts lens : List ℕ) (i k : ℕ) (even : length types ≡ length counts) (a : Agreeing types counts lens i k) where
  abbrev t : ℕ
  t = get_or types i 0

  abbrev c : ℕ
  c = get_or counts i 0

  -- the shape at i and those after it
  one : i < length types → parts_agree (drop i types) (drop i counts) (drop k lens) ≡ (shape_agrees t c (drop k lens) && parts_agree (drop (i + 1) types) (drop (i + 1) counts) (drop (k + c) lens))
  unfolding parts_agree
  one h =
      let hc : i < length counts = omega arith in
      (λ j. parts_agree (drop-cons types i 0 h j) (drop-cons counts i 0 hc j) (drop k lens))
      ∙ (λ j. shape_agrees t c (drop k lens) && parts_agree (drop (sym (add-one i) j) types) (drop (sym (add-one i) j) counts) (drop-drop c k lens j))

  -- one that agrees
  pub agreeing-more : i < length types → shape_agrees t c (drop k lens) ≡ true → Agreeing types counts lens (i + 1) (k + c)
  agreeing-more h p = record {
    passed = omega (arith, parts-there t c (drop k lens) p, length-drop k lens, a.passed);
    rest = then (shape_agrees t c (drop k lens)) _ _ p refl ∙ sym (one h) ∙ a.rest;
  }

  -- one that does not
  pub agreeing-stop : i < length types → shape_agrees t c (drop k lens) ≡ false → false ≡ parts_agree types counts lens
  agreeing-stop h p = first-fails (shape_agrees t c (drop k lens)) _ p ∙ sym (one h) ∙ a.rest

  -- all of them: no part is left
  pub agreeing-done : length types ≤ i → eqb k (length lens) ≡ parts_agree types counts lens
  agreeing-done h =
      let hc : length counts ≤ i = omega arith in
      no-part-left k lens a.passed ∙ sym (λ j. parts_agree (drop_of_length-le types {i = i} h j) (drop_of_length-le counts {i = i} hc j) (drop k lens)) ∙ a.rest
