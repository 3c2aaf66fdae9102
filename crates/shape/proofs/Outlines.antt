-- Laws of the list of a page's shapes: how many there are, and those from a place on. Assumes nothing.
use mathlib.Core.Path.{◌≡◌, refl, sym, ap, ◌∙◌}
use mathlib.Core.List.{List, [], ◌∷◌}
use Prim.Native.Nat.{ℕ, zero, suc, ◌+◌}
use native.Mathlib.Omega.{arith}
use lib.ListN.{length, take, drop}
use lib.Seq.{drop-drop, take-add}
use Rattle.types.specs.Parts.{total}
use Rattle.types.proofs.Sums.{total-append}
use Rattle.shape.specs.Outline.{Outline, vertex_count, outlines_of, registered}

-- one for each type, if each has a part count
pub outlines-length : (types counts lens xs ys : List ℕ) → length types ≡ length counts → length (outlines_of types counts lens xs ys) ≡ length types
unfolding outlines_of
outlines-length [] cs lens xs ys e = refl
outlines-length (t ∷ ts) [] lens xs ys e = absurd (omega arith)
outlines-length (t ∷ ts) (c ∷ cs) lens xs ys e =
    ap suc (outlines-length ts cs (drop c lens) (drop (vertex_count c lens) xs) (drop (vertex_count c lens) ys) (omega arith))

-- the parts of the first i shapes, and their vertices
abbrev pub parts_before : List ℕ → ℕ → ℕ
parts_before counts i = total (take i counts)

abbrev pub vertices_before : List ℕ → List ℕ → ℕ → ℕ
vertices_before counts lens i = vertex_count (parts_before counts i) lens

-- those from i on have the parts and the vertices from there on
pub outlines-drop : (i : ℕ) (types counts lens xs ys : List ℕ)
    → drop i (outlines_of types counts lens xs ys)
    ≡ outlines_of (drop i types) (drop i counts) (drop (parts_before counts i) lens) (drop (vertices_before counts lens i) xs) (drop (vertices_before counts lens i) ys)
unfolding outlines_of total
outlines-drop zero types counts lens xs ys = refl
outlines-drop (suc i) [] counts lens xs ys = refl
outlines-drop (suc i) (t ∷ ts) [] lens xs ys = sym (none (drop i ts))
  where
    none : (ts : List ℕ) → outlines_of ts [] lens xs ys ≡ []
    none [] = refl
    none (t ∷ ts) = refl
outlines-drop (suc i) (t ∷ ts) (c ∷ cs) lens xs ys =
    outlines-drop i ts cs (drop c lens) (drop n xs) (drop n ys)
    ∙ (λ j. outlines_of (drop i ts) (drop i cs) (drop-drop k c lens j) (vertices xs j) (vertices ys j))
  where
    n : ℕ
    n = vertex_count c lens

    k : ℕ
    k = parts_before cs i

    sum : n + vertex_count k (drop c lens) ≡ vertex_count (c + k) lens
    sum = sym (ap total (take-add c k lens) ∙ total-append (take c lens) (take k (drop c lens)))

    vertices : (l : List ℕ) → drop (vertex_count k (drop c lens)) (drop n l) ≡ drop (vertex_count (c + k) lens) l
    vertices l = drop-drop (vertex_count k (drop c lens)) n l ∙ ap (λ (m : ℕ). drop m l) sum

-- ---- with their registers

pub shapes-length : (rs : List ℕ) (os : List Outline) → length rs ≡ length os → length (registered rs os) ≡ length os
unfolding registered
shapes-length [] [] e = refl
shapes-length [] (o ∷ os) e = absurd (omega arith)
shapes-length (r ∷ rs) [] e = refl
shapes-length (r ∷ rs) (o ∷ os) e = ap suc (shapes-length rs os (omega arith))

pub shapes-drop : (i : ℕ) (rs : List ℕ) (os : List Outline) → drop i (registered rs os) ≡ registered (drop i rs) (drop i os)
unfolding registered
shapes-drop zero rs os = refl
shapes-drop (suc i) [] os = refl
shapes-drop (suc i) (r ∷ rs) [] = sym (none (drop i rs))
  where
    none : (rs : List ℕ) → registered rs [] ≡ []
    none [] = refl
    none (r ∷ rs) = refl
shapes-drop (suc i) (r ∷ rs) (o ∷ os) = shapes-drop i rs os
