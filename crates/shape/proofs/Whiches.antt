-- Laws of the three rules that go shape by shape. Assumes nothing.
use mathlib.Core.Path.{◌≡◌, refl, ap}
use mathlib.Core.Bool.{Bool, true, ◌&&◌}
use mathlib.Core.List.{List, [], ◌∷◌}
use Prim.Native.Nat.{ℕ, ◌≤◌, ◌<◌}
use native.Mathlib.Omega.{arith}
use borrow.Author.Tests.{le-leb, leb-true}
use lib.Dec.{leb}
use lib.ListN.{length, get_or, get_or-eq_default, take, drop, length-take, length-drop}
use Rattle.std.specs.List.{list_all}
use Rattle.answer.proofs.Both.{both, both_l, both_r}
use Rattle.answer.specs.All.{all_of}
use Rattle.types.specs.Types.{last_type, empty_row, type_rows, type_row}
use Rattle.shape.specs.Outline.{Outline, vertex_count, outline_with, outlines_of}
use Rattle.shape.specs.Rules.{on_grid_shape}
use Rattle.shape.specs.Which.{always, turnable, no_rings}

-- what is known before the turns
pub turnable-few : (o : Outline) → turnable o ≡ true → (length o.xs ≤ 2048) × (on_grid_shape o ≡ true)
unfolding turnable
turnable-few o b = (leb-true (length o.xs) 2048 (both_r (on_grid_shape o) (leb (length o.xs) 2048) b), both_l (on_grid_shape o) (leb (length o.xs) 2048) b)

-- nothing must have passed before the rings, nor before the grid
pub all-always : (os : List Outline) → all_of always os ≡ true
unfolding all_of always
all-always [] = refl
all-always (o ∷ os) = all-always os

-- of a page that is on grid and not over 2,048 vertices, each shape is ready for the turns
pub all-turnable : (types counts lens xs ys : List ℕ) → length xs ≤ 2048 → all_of on_grid_shape (outlines_of types counts lens xs ys) ≡ true
    → all_of turnable (outlines_of types counts lens xs ys) ≡ true
unfolding outlines_of all_of turnable
all-turnable [] cs lens xs ys h e = refl
all-turnable (t ∷ ts) [] lens xs ys h e = refl
all-turnable (t ∷ ts) (c ∷ cs) lens xs ys h e =
    let n = vertex_count c lens in
    let o = outline_with t (take c lens) (take n xs) (take n ys) in
    let os = outlines_of ts cs (drop c lens) (drop n xs) (drop n ys) in
    let few = le-leb (length (take n xs)) 2048 (omega (arith, length-take n xs)) in
    both (both (both_l (on_grid_shape o) (all_of on_grid_shape os) e) few)
    (all-turnable ts cs (drop c lens) (drop n xs) (drop n ys) (omega (arith, length-drop n xs)) (both_r (on_grid_shape o) (all_of on_grid_shape os) e))

-- ---- types of which a rule says nothing

-- a type over the last has no row, and so no rings
pub open-over : (t : ℕ) → last_type < t → true ≡ no_rings t
unfolding no_rings type_row
open-over t h = let e : get_or type_rows t empty_row ≡ empty_row = get_or-eq_default type_rows empty_row h in rw e

-- where each shape of such a type passes, all do
pub all-spared : (spared : ℕ → Bool) (test : Outline → Bool) → ((o : Outline) → spared o.kind ≡ true → test o ≡ true)
    → (types counts lens xs ys : List ℕ) → all_of spared types ≡ true → all_of test (outlines_of types counts lens xs ys) ≡ true
unfolding outlines_of all_of
all-spared spared test law [] cs lens xs ys e = refl
all-spared spared test law (t ∷ ts) [] lens xs ys e = refl
all-spared spared test law (t ∷ ts) (c ∷ cs) lens xs ys e =
    let n = vertex_count c lens in
    let o = outline_with t (take c lens) (take n xs) (take n ys) in
    both
    (law o (both_l (spared t) (all_of spared ts) e))
    (all-spared spared test law ts cs (drop c lens) (drop n xs) (drop n ys) (both_r (spared t) (all_of spared ts) e))

-- the library's word for a test that each of a list passes
pub all-list : {A : Type 0} (f : A → Bool) (l : List A) → list_all f l ≡ all_of f l
unfolding all_of
all-list f [] = refl
all-list f (a ∷ l) = ap (λ (t : Bool). f a && t) (all-list f l)
