-- The walk over the parts of a shape: where the part at i starts and ends among the vertices, and that it is the part at i. Assumes nothing.
use mathlib.Core.Path.{◌≡◌, refl, sym, ap, ◌∙◌}
use mathlib.Core.List.{List, [], ◌∷◌}
use Prim.Native.Nat.{ℕ, ◌+◌, ◌-◌, ◌≤◌, ◌<◌}
use native.Mathlib.Numerals.{add-one}
use native.Mathlib.Omega.{arith}
use lib.ListN.{length, get_or, take, drop, drop_of_length-le}
use lib.Seq.{drop-cons, drop-drop}
use Rattle.types.specs.Parts.{total}
use Rattle.types.proofs.Sums.{total-from}
use Rattle.shape.specs.Outline.{Part, part_with, parts_of}
use Rattle.shape.specs.Ready.{Cut}

-- i parts are passed, with the vertices before at
pub record Parting (lens xs ys : List ℕ) (i at : ℕ) : Type 0 where
  pub sum : total (drop i lens) + at ≡ length xs
  pub same : length ys ≡ length xs
  pub rest : drop i (parts_of lens xs ys) ≡ parts_of (drop i lens) (drop at xs) (drop at ys)

pub parting-none : (lens xs ys : List ℕ) → Cut lens xs ys → Parting lens xs ys 0 0
parting-none lens xs ys u = record { sum = omega (arith, u.sum); same = u.same; rest = refl }

-- the vertices from at to end, as a part
abbrev pub part_at : List ℕ → List ℕ → ℕ → ℕ → Part
part_at xs ys at end = part_with (take (end - at) (drop at xs)) (take (end - at) (drop at ys))

module _ (lens xs ys : List ℕ) (i at end : ℕ) (p : Parting lens xs ys i at) (h : i < length lens) (e : end ≡ at + get_or lens i 0) where
  -- its vertices are there
  pub parting-there : end ≤ length xs
  parting-there = omega (arith, total-from lens i h, p.sum)

  after : drop i (parts_of lens xs ys) ≡ part_at xs ys at end ∷ parts_of (drop (i + 1) lens) (drop end xs) (drop end ys)
  unfolding parts_of
  after =
      p.rest
      ∙ (λ j. parts_of (drop-cons lens i 0 h j) (drop at xs) (drop at ys))
      ∙ (λ j. part_with (take (own j) (drop at xs)) (take (own j) (drop at ys)) ∷ parts_of (drop (sym (add-one i) j) lens) (left xs j) (left ys j))
    where
      own : get_or lens i 0 ≡ end - at
      own = omega arith

      left : (l : List ℕ) → drop (get_or lens i 0) (drop at l) ≡ drop end l
      left l = drop-drop (get_or lens i 0) at l ∙ ap (λ (n : ℕ). drop n l) (sym e)

  tail : drop (i + 1) (parts_of lens xs ys) ≡ parts_of (drop (i + 1) lens) (drop end xs) (drop end ys)
  tail = sym (drop-drop 1 i (parts_of lens xs ys)) ∙ ap (λ (l : List Part). drop 1 l) after

  -- it is the part at i
  pub parting-stands : drop i (parts_of lens xs ys) ≡ part_at xs ys at end ∷ drop (i + 1) (parts_of lens xs ys)
  parting-stands = after ∙ ap (λ (l : List Part). part_at xs ys at end ∷ l) (sym tail)

  -- and the walk goes on behind it
  pub parting-more : Parting lens xs ys (i + 1) end
  parting-more = record { sum = omega (arith, total-from lens i h, p.sum); same = p.same; rest = tail }

-- none is left
pub parting-end : (lens xs ys : List ℕ) (i at : ℕ) → Parting lens xs ys i at → length lens ≤ i → drop i (parts_of lens xs ys) ≡ []
unfolding parts_of
parting-end lens xs ys i at p h = p.rest ∙ ap (λ (l : List ℕ). parts_of l (drop at xs) (drop at ys)) (drop_of_length-le lens {i = i} h)
