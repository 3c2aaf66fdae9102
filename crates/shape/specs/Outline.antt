-- The shapes of a page, and the parts of a shape: cut from the page's lists one after the other, each from what the one before it left.
-- Assumes nothing.
use Rattle.std.specs.Prelude.{ℕ, List, [], ◌∷◌, take, drop}
use Rattle.types.specs.Parts.{total}
use Rattle.shape.specs.declared.lists.Lists.{Lists}

-- a shape without its register: its type, its part lengths, and the patterns of its vertices
pub record Outline : Type 0 where
  pub kind : ℕ
  pub lens : List ℕ
  pub xs : List ℕ
  pub ys : List ℕ

-- a shape
pub record Shape : Type 0 where
  pub register : ℕ
  pub outline : Outline

-- a part: the patterns of its vertices
pub record Part : Type 0 where
  pub xs : List ℕ
  pub ys : List ℕ

-- an outline, by the four of them
abbrev pub outline_with : ℕ → List ℕ → List ℕ → List ℕ → Outline
outline_with kind lens xs ys = record { kind = kind; lens = lens; xs = xs; ys = ys }

-- a part, by its x and its y
abbrev pub part_with : List ℕ → List ℕ → Part
part_with xs ys = record { xs = xs; ys = ys }

-- how many vertices the first c parts have
abbrev pub vertex_count : ℕ → List ℕ → ℕ
vertex_count c lens = total (take c lens)

-- by type, part count, part lengths, x and y: the first c part lengths, and as many vertices as they sum up to, are the first shape's
unfoldable pub outlines_of : List ℕ → List ℕ → List ℕ → List ℕ → List ℕ → List Outline
outlines_of [] cs lens xs ys = []
outlines_of (t ∷ ts) [] lens xs ys = []
outlines_of (t ∷ ts) (c ∷ cs) lens xs ys =
    outline_with t (take c lens) (take (vertex_count c lens) xs) (take (vertex_count c lens) ys)
    ∷ outlines_of ts cs (drop c lens) (drop (vertex_count c lens) xs) (drop (vertex_count c lens) ys)

-- the same, of lists that rule 11 has let pass
abbrev pub outlines_in : Lists → List Outline
outlines_in l = outlines_of l.types.now l.counts.now l.lens.now l.xs.now l.ys.now

-- by part length, x and y: as many vertices as the first length says are the first part's
unfoldable pub parts_of : List ℕ → List ℕ → List ℕ → List Part
parts_of [] xs ys = []
parts_of (n ∷ ns) xs ys = part_with (take n xs) (take n ys) ∷ parts_of ns (drop n xs) (drop n ys)

-- outlines, each with its register
unfoldable pub registered : List ℕ → List Outline → List Shape
registered [] os = []
registered (r ∷ rs) [] = []
registered (r ∷ rs) (o ∷ os) = record { register = r; outline = o } ∷ registered rs os
