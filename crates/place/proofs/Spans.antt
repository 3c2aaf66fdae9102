-- The shape at an index of a page's lists: its row, and its span of the part lengths and the vertices. Assumes nothing.
use mathlib.Core.Path.{◌≡◌, ap, ◌∙◌}
use mathlib.Core.List.{List, [], ◌∷◌}
use Prim.Native.Nat.{ℕ, suc, ◌+◌, ◌-◌, ◌≤◌, ◌<◌}
use native.Mathlib.Omega.{arith}
use lib.ListN.{length, get_or, take, drop}
use lib.Seq.{drop-cons, take-suc, take-add}
use Rattle.answer.specs.Outcome.{ok}
use Rattle.types.specs.Parts.{total}
use Rattle.types.proofs.Sums.{total-none, total-cons, total-append, total-take-le}
use Rattle.shape.specs.Outline.{Outline, Shape, outline_with, outlines_of, registered}
use Rattle.shape.proofs.Outlines.{outlines-drop, shapes-drop}
use Rattle.place.specs.declared.row.Row.{Row}
use Rattle.place.specs.declared.span.Span.{Span}
use Rattle.place.specs.Span.{span_of, shape_from}
use Rattle.place.specs.Nth.{shape_at}
use Rattle.place.proofs.Nth.{nth_drop}

-- ---- the span

-- those before i, and the one at i
pub total-suc : (l : List ℕ) (i : ℕ) → i < length l → total (take (suc i) l) ≡ total (take i l) + get_or l i 0
total-suc l i h =
    let e : total (get_or l i 0 ∷ []) ≡ get_or l i 0 = total-cons (get_or l i 0) [] ∙ omega (arith, total-none) in
    ap total (take-suc l i 0 h) ∙ total-append (take i l) (get_or l i 0 ∷ []) ∙ omega (arith, e)

-- as it is worked out
pub span-is : (counts lens : List ℕ) (i part past vertex end : ℕ) → part ≡ total (take i counts) → past ≡ part + get_or counts i 0 → vertex ≡ total (take part lens)
    → end ≡ total (take past lens) → record { part = part; part_end = past; vertex = vertex; vertex_end = end } ≡ span_of counts lens i
unfolding span_of
span-is counts lens i part past vertex end a b c d = rw (d, c, b, a)

-- it lies within the lists
module _ (counts lens : List ℕ) (i : ℕ) (h : i < length counts) (e : total counts ≡ length lens) where
  abbrev p : Span
  p = span_of counts lens i

  pub span-parts : (p.part ≤ p.part_end) × (p.part_end ≤ length lens)
  unfolding span_of
  span-parts = (omega arith, omega (arith, total-suc counts i h, total-take-le (suc i) counts, e))

  pub span-vertices : (p.vertex ≤ p.vertex_end) × (p.vertex_end ≤ total lens)
  unfolding span_of
  span-vertices =
      let k = total (take i counts) in
      let c = get_or counts i 0 in
      (omega (arith, ap total (take-add k c lens) ∙ total-append (take k lens) (take c (drop k lens))), total-take-le (k + c) lens)

-- ---- the shape

module _ (rs types counts lens xs ys : List ℕ) (i : ℕ) (hr : i < length rs) (ht : i < length types) (hc : i < length counts) where
  abbrev os : List Outline
  os = outlines_of types counts lens xs ys

  abbrev own : Row
  own = record { register = get_or rs i 0; kind = get_or types i 0 }

  abbrev mine : Shape
  mine = shape_from own (span_of counts lens i) lens xs ys

  abbrev k : ℕ
  k = total (take i counts)

  abbrev c : ℕ
  c = get_or counts i 0

  sum : total (take (k + c) lens) ≡ total (take k lens) + total (take c (drop k lens))
  sum = ap total (take-add k c lens) ∙ total-append (take k lens) (take c (drop k lens))

  stands : (l : List Shape) × (drop i (registered rs os) ≡ mine ∷ l)
  unfolding outlines_of registered shape_from span_of
  stands =
      let n = total (take c (drop k lens)) in
      let en : n ≡ total (take (k + c) lens) - total (take k lens) = omega (arith, sum) in
      let ec : c ≡ k + c - k = omega arith in (
        registered (drop (suc i) rs)
            (outlines_of (drop (suc i) types) (drop (suc i) counts) (drop c (drop k lens)) (drop n (drop (total (take k lens)) xs)) (drop n (drop (total (take k lens)) ys))),
        shapes-drop i rs os
            ∙ (λ j. registered (drop-cons rs i 0 hr j) (outlines-drop i types counts lens xs ys j))
            ∙ (λ j. registered (get_or rs i 0 ∷ drop (suc i) rs) (outlines_of (drop-cons types i 0 ht j) (drop-cons counts i 0 hc j) (drop k lens) (drop (total (take k lens)) xs) (drop (total (take k lens)) ys)))
            ∙ (λ j. record {
              register = get_or rs i 0;
              outline = outline_with (get_or types i 0) (take (ec j) (drop k lens)) (take (en j) (drop (total (take k lens)) xs)) (take (en j) (drop (total (take k lens)) ys));
            } ∷ registered (drop (suc i) rs)
            (outlines_of (drop (suc i) types) (drop (suc i) counts) (drop c (drop k lens)) (drop n (drop (total (take k lens)) xs)) (drop n (drop (total (take k lens)) ys)))),
      )

  -- it is the shape at i
  pub span-shape : shape_at i (registered rs (outlines_of types counts lens xs ys)) ≡ ok (shape_from (record { register = get_or rs i 0; kind = get_or types i 0 }) (span_of counts lens i) lens xs ys)
  span-shape = nth_drop i (registered rs os) stands.0 mine stands.1
