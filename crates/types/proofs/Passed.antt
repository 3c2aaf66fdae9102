-- What a page that passed rule 11 is known by: shape by shape, and in its sums. Assumes nothing.
use mathlib.Core.Path.{◌≡◌, refl, sym, ap, ◌∙◌}
use mathlib.Core.Bool.{true, ◌&&◌, false≢true}
use mathlib.Core.List.{List, [], ◌∷◌}
use Prim.Native.Nat.{ℕ, zero, suc, ◌≤◌}
use native.Mathlib.Omega.{arith}
use borrow.Author.Tests.{leb-true, le-leb, eqb-true}
use lib.Dec.{leb, eqb}
use lib.ListN.{length, take, drop, length-drop, take-append-drop}
use Rattle.answer.specs.Table.{parts}
use Rattle.answer.specs.Outcome.{ok}
use Rattle.answer.proofs.Rules.{rule-ok}
use Rattle.answer.proofs.Both.{both, both_l, both_r}
use Rattle.types.specs.declared.rows.TypeRow.{TypeRow}
use Rattle.answer.specs.All.{all_of}
use Rattle.types.specs.Types.{last_type, type_row}
use Rattle.types.specs.Parts.{total, fits, lengths_fit, row_agrees, shape_agrees, parts_agree, parts_hold, parts_rule}
use Rattle.answer.proofs.Alls.{all_none, all_append, all-imp}
use Rattle.types.proofs.Tabled.{one-vertex}

-- the rule that lets pass
pub parts-passed : (types counts lens : List ℕ) (v : ℕ) (u : Unit {0}) → parts_rule types counts lens v ≡ ok u → parts_hold types counts lens v ≡ true
unfolding parts_rule
parts-passed types counts lens v u e = rule-ok (parts_hold types counts lens v) parts u e

-- its two tests
pub hold-agree : (types counts lens : List ℕ) (v : ℕ) → parts_hold types counts lens v ≡ true → parts_agree types counts lens ≡ true
unfolding parts_hold
hold-agree types counts lens v e = both_l (parts_agree types counts lens) (eqb (total lens) v) e

pub hold-total : (types counts lens : List ℕ) (v : ℕ) → parts_hold types counts lens v ≡ true → total lens ≡ v
unfolding parts_hold
hold-total types counts lens v e = eqb-true (total lens) v (both_r (parts_agree types counts lens) (eqb (total lens) v) e)

-- ---- one shape

-- a number that fits
pub fits-least : (least most n : ℕ) → fits least most n ≡ true → least ≤ n
unfolding fits
fits-least least most n e = leb-true least n (both_l (leb least n) (leb n most) e)

pub fits-most : (least most n : ℕ) → fits least most n ≡ true → n ≤ most
unfolding fits
fits-most least most n e = leb-true n most (both_r (leb least n) (leb n most) e)

-- a shape of type t with c parts, the first of those left, that goes by the table
pub record InTable (t c : ℕ) (lens : List ℕ) : Type 0 where
  pub known : t ≤ last_type
  pub parts : fits (type_row t).least_parts (type_row t).most_parts c ≡ true
  pub there : c ≤ length lens
  pub lengths : lengths_fit (type_row t) (take c lens) ≡ true

pub shape-says : (t c : ℕ) (lens : List ℕ) → shape_agrees t c lens ≡ true → InTable t c lens
unfolding shape_agrees row_agrees
shape-says t c lens e =
    let r = type_row t in
    let row = both_r (leb t last_type) (row_agrees r c lens) e in
    let own = both_r (fits r.least_parts r.most_parts c) (leb c (length lens) && lengths_fit r (take c lens)) row in record {
      known = leb-true t last_type (both_l (leb t last_type) (row_agrees r c lens) e);
      parts = both_l (fits r.least_parts r.most_parts c) (leb c (length lens) && lengths_fit r (take c lens)) row;
      there = leb-true c (length lens) (both_l (leb c (length lens)) (lengths_fit r (take c lens)) own);
      lengths = both_r (leb c (length lens)) (lengths_fit r (take c lens)) own;
    }

-- ---- the shapes of a page

pub agree-none : (lens : List ℕ) → parts_agree [] [] lens ≡ true → lens ≡ []
unfolding parts_agree
agree-none [] e = refl
agree-none (n ∷ lens) e = absurd (false≢true e)

-- the first, and the others with the parts that are left
pub record First (t c : ℕ) (ts cs lens : List ℕ) : Type 0 where
  pub first : InTable t c lens
  pub others : parts_agree ts cs (drop c lens) ≡ true

pub parts-cons : (t c : ℕ) (ts cs lens : List ℕ) → parts_agree (t ∷ ts) (c ∷ cs) lens ≡ true → First t c ts cs lens
unfolding parts_agree
parts-cons t c ts cs lens e = record {
  first = shape-says t c lens (both_l (shape_agrees t c lens) (parts_agree ts cs (drop c lens)) e);
  others = both_r (shape_agrees t c lens) (parts_agree ts cs (drop c lens)) e;
}

-- the part counts sum up to the parts
pub agree-counts : (types counts lens : List ℕ) → parts_agree types counts lens ≡ true → total counts ≡ length lens
unfolding parts_agree total
agree-counts [] [] [] e = refl
agree-counts [] [] (n ∷ lens) e = absurd (false≢true e)
agree-counts [] (c ∷ cs) lens e = absurd (false≢true e)
agree-counts (t ∷ ts) [] lens e = absurd (false≢true e)
agree-counts (t ∷ ts) (c ∷ cs) lens e =
    let p = parts-cons t c ts cs lens e in
    omega (arith, agree-counts ts cs (drop c lens) p.others, length-drop c lens, p.first.there)

-- ---- each part has a vertex

-- those of one shape: it has no part, or its row's least is one or more
own-full : (t c : ℕ) (lens : List ℕ) → InTable t c lens → all_of (leb 1) (take c lens) ≡ true
own-full t zero lens s = all_none (leb 1)
own-full t (suc c) lens s = all-imp (fits r.least_vertices r.most_vertices) (leb 1) (take (suc c) lens) longer (unfold lengths_fit in s.lengths)
  where
    r : TypeRow
    r = type_row t

    one : 1 ≤ (type_row t).least_vertices
    one = one-vertex t s.known (omega (arith, fits-most (type_row t).least_parts (type_row t).most_parts (suc c) s.parts))

    longer : (n : ℕ) → fits (type_row t).least_vertices (type_row t).most_vertices n ≡ true → leb 1 n ≡ true
    longer n e = le-leb 1 n (omega (arith, one, fits-least (type_row t).least_vertices (type_row t).most_vertices n e))

-- and those of a page
pub agree-full : (types counts lens : List ℕ) → parts_agree types counts lens ≡ true → all_of (leb 1) lens ≡ true
unfolding parts_agree
agree-full [] [] [] e = all_none (leb 1)
agree-full [] [] (n ∷ lens) e = absurd (false≢true e)
agree-full [] (c ∷ cs) lens e = absurd (false≢true e)
agree-full (t ∷ ts) [] lens e = absurd (false≢true e)
agree-full (t ∷ ts) (c ∷ cs) lens e =
    let p = parts-cons t c ts cs lens e in
    let own = own-full t c lens p.first in
    let others = agree-full ts cs (drop c lens) p.others in
    sym (ap (all_of (leb 1)) (take-append-drop c lens)) ∙ all_append (leb 1) (take c lens) (drop c lens) ∙ both own others

-- so there are at most as many parts as vertices
full-length : (lens : List ℕ) → all_of (leb 1) lens ≡ true → length lens ≤ total lens
unfolding total all_of
full-length [] e = omega arith
full-length (n ∷ lens) e = omega (arith, leb-true 1 n (both_l (leb 1 n) (all_of (leb 1) lens) e), full-length lens (both_r (leb 1 n) (all_of (leb 1) lens) e))

pub parts-at-most : (types counts lens : List ℕ) → parts_agree types counts lens ≡ true → length lens ≤ total lens
parts-at-most types counts lens e = full-length lens (agree-full types counts lens e)
