-- The walk over the shapes of a page: where the shape at i starts and ends among the parts and the vertices, and that it is the shape at i.
-- Assumes nothing.
use mathlib.Core.Path.{◌≡◌, refl, sym, ap, ◌∙◌}
use mathlib.Core.Bool.{true}
use mathlib.Core.List.{List, [], ◌∷◌}
use Prim.Native.Nat.{ℕ, suc, ◌+◌, ◌-◌, ◌≤◌, ◌<◌, zero-le}
use native.Mathlib.Numerals.{add-one}
use native.Mathlib.Omega.{arith}
use lib.ListN.{length, get_or, take, drop, length-drop, drop_of_length-le}
use lib.Seq.{drop-cons, drop-drop, length-take-le}
use Rattle.types.specs.Parts.{total, parts_agree}
use Rattle.types.proofs.Sums.{total-split}
use Rattle.types.proofs.Agreeing.{agree-even}
use Rattle.types.proofs.Passed.{InTable, First, hold-agree, hold-total, parts-cons}
use Rattle.shape.specs.declared.lists.Lists.{Lists}
use Rattle.shape.specs.Outline.{Outline, outline_with, outlines_of, outlines_in}
use Rattle.shape.specs.Ready.{Cut}

-- i shapes are passed, with the parts before k and the vertices before at
pub record Walking (p : Lists) (i k at : ℕ) : Type 0 where
  pub agree : parts_agree (drop i p.types.now) (drop i p.counts.now) (drop k p.lens.now) ≡ true
  pub parts : k ≤ length p.lens.now
  pub sum : total (drop k p.lens.now) + at ≡ length p.xs.now
  pub rest : drop i (outlines_in p) ≡ outlines_of (drop i p.types.now) (drop i p.counts.now) (drop k p.lens.now) (drop at p.xs.now) (drop at p.ys.now)

pub walking-none : (p : Lists) → Walking p 0 0 0
walking-none p = record {
  agree = hold-agree p.types.now p.counts.now p.lens.now (length p.xs.now) p.parted.parts;
  parts = zero-le;
  sum = omega (arith, hold-total p.types.now p.counts.now p.lens.now (length p.xs.now) p.parted.parts);
  rest = refl;
}

-- the parts from k to e and the vertices from at to end, as a shape of type t
abbrev pub outline_at : ℕ → List ℕ → List ℕ → List ℕ → ℕ → ℕ → ℕ → ℕ → Outline
outline_at t lens xs ys k e at end = outline_with t (take (e - k) (drop k lens)) (take (end - at) (drop at xs)) (take (end - at) (drop at ys))

module _ (p : Lists) (i k at : ℕ) (w : Walking p i k at) (h : i < length p.types.now) where
  -- it has a part count
  pub walking-counted : i < length p.counts.now
  walking-counted = omega (arith, agree-even (drop i p.types.now) (drop i p.counts.now) (drop k p.lens.now) w.agree, length-drop i p.types.now, length-drop i p.counts.now)

  -- it goes by the table, and so do those after it
  walking-first : First (get_or p.types.now i 0) (get_or p.counts.now i 0) (drop (suc i) p.types.now) (drop (suc i) p.counts.now) (drop k p.lens.now)
  walking-first = parts-cons (get_or p.types.now i 0) (get_or p.counts.now i 0) (drop (suc i) p.types.now) (drop (suc i) p.counts.now) (drop k p.lens.now)
      (sym (λ j. parts_agree (drop-cons p.types.now i 0 h j) (drop-cons p.counts.now i 0 walking-counted j) (drop k p.lens.now)) ∙ w.agree)

  pub walking-table : InTable (get_or p.types.now i 0) (get_or p.counts.now i 0) (drop k p.lens.now)
  walking-table = walking-first.first

  -- its parts are there
  pub walking-parts : k + get_or p.counts.now i 0 ≤ length p.lens.now
  walking-parts = omega (arith, walking-table.there, length-drop k p.lens.now, w.parts)

  module _ (e end : ℕ) (d : e ≡ k + get_or p.counts.now i 0) (g : end ≡ at + total (take (e - k) (drop k p.lens.now))) where
    -- the part count is what lies between
    between : get_or p.counts.now i 0 ≡ e - k
    between = omega arith

    left : total (take (e - k) (drop k p.lens.now)) + total (drop e p.lens.now) ≡ total (drop k p.lens.now)
    left = ap (λ (l : List ℕ). total (take (e - k) (drop k p.lens.now)) + total l) (sym (drop-drop (e - k) k p.lens.now ∙ ap (λ (n : ℕ). drop n p.lens.now) to)) ∙ sym (total-split (e - k) (drop k p.lens.now))
      where
        to : k + (e - k) ≡ e
        to = omega arith

    -- its vertices are there
    pub walking-there : end ≤ length p.xs.now
    walking-there = omega (arith, left, w.sum)

    abbrev pub outline : Outline
    outline = outline_at (get_or p.types.now i 0) p.lens.now p.xs.now p.ys.now k e at end

    -- and its part lengths make them up
    pub walking-cut : Cut outline.lens outline.xs outline.ys
    walking-cut = record { sum = spare ∙ sym (long p.xs.now refl); same = long p.ys.now p.parted.same ∙ sym (long p.xs.now refl) }
      where
        spare : total (take (e - k) (drop k p.lens.now)) ≡ end - at
        spare = omega arith

        long : (l : List ℕ) → length l ≡ length p.xs.now → length (take (end - at) (drop at l)) ≡ end - at
        long l same = length-take-le (end - at) (drop at l) (omega (arith, walking-there, length-drop at l))

    after : drop i (outlines_in p) ≡ outline ∷ outlines_of (drop (i + 1) p.types.now) (drop (i + 1) p.counts.now) (drop e p.lens.now) (drop end p.xs.now) (drop end p.ys.now)
    unfolding outlines_of
    after =
        w.rest
        ∙ (λ j. outlines_of (drop-cons p.types.now i 0 h j) (drop-cons p.counts.now i 0 walking-counted j) (drop k p.lens.now) (drop at p.xs.now) (drop at p.ys.now))
        ∙ (λ j. outline_with (get_or p.types.now i 0) (take (between j) (drop k p.lens.now)) (take (own j) (drop at p.xs.now)) (take (own j) (drop at p.ys.now))
        ∷ outlines_of (drop (sym (add-one i) j) p.types.now) (drop (sym (add-one i) j) p.counts.now) (parts j) (vertices p.xs.now j) (vertices p.ys.now j))
      where
        own : total (take (get_or p.counts.now i 0) (drop k p.lens.now)) ≡ end - at
        own = ap (λ (n : ℕ). total (take n (drop k p.lens.now))) between ∙ omega arith

        parts : drop (get_or p.counts.now i 0) (drop k p.lens.now) ≡ drop e p.lens.now
        parts = drop-drop (get_or p.counts.now i 0) k p.lens.now ∙ ap (λ (n : ℕ). drop n p.lens.now) (sym d)

        vertices : (l : List ℕ) → drop (total (take (get_or p.counts.now i 0) (drop k p.lens.now))) (drop at l) ≡ drop end l
        vertices l = ap (λ (n : ℕ). drop (total (take n (drop k p.lens.now))) (drop at l)) between ∙ drop-drop (total (take (e - k) (drop k p.lens.now))) at l ∙ ap (λ (n : ℕ). drop n l) (sym g)

    tail : drop (i + 1) (outlines_in p) ≡ outlines_of (drop (i + 1) p.types.now) (drop (i + 1) p.counts.now) (drop e p.lens.now) (drop end p.xs.now) (drop end p.ys.now)
    tail = sym (drop-drop 1 i (outlines_in p)) ∙ ap (λ (l : List Outline). drop 1 l) after

    -- it is the shape at i
    pub walking-stands : drop i (outlines_in p) ≡ outline ∷ drop (i + 1) (outlines_in p)
    walking-stands = after ∙ ap (λ (l : List Outline). outline ∷ l) (sym tail)

    -- and the walk goes on behind it
    pub walking-more : Walking p (i + 1) e end
    walking-more = record {
      agree = (λ j. parts_agree (drop (add-one i j) p.types.now) (drop (add-one i j) p.counts.now) (sym (drop-drop (get_or p.counts.now i 0) k p.lens.now ∙ ap (λ (n : ℕ). drop n p.lens.now) (sym d)) j)) ∙ walking-first.others;
      parts = omega (arith, walking-parts);
      sum = omega (arith, left, w.sum);
      rest = tail;
    }

-- none is left
pub walking-end : (p : Lists) (i k at : ℕ) → Walking p i k at → length p.types.now ≤ i → drop i (outlines_in p) ≡ []
unfolding outlines_of
walking-end p i k at w h =
    w.rest ∙ ap (λ (l : List ℕ). outlines_of l (drop i p.counts.now) (drop k p.lens.now) (drop at p.xs.now) (drop at p.ys.now)) (drop_of_length-le p.types.now {i = i} h)

-- as many part counts as types
pub walking-long : (p : Lists) (i k at : ℕ) → Walking p i k at → length p.types.now - i ≡ length p.counts.now - i
walking-long p i k at w =
    omega (arith, agree-even (drop i p.types.now) (drop i p.counts.now) (drop k p.lens.now) w.agree, length-drop i p.types.now, length-drop i p.counts.now)
