-- A page's contents: "each rule over the page before the next: 11, x column, y column, 12, 13, 14, 15, 16". A page's meaning is its list of
-- shapes. Assumes nothing.
use Rattle.std.specs.Prelude.{ℕ, ◌+◌, List, take, drop}
use Rattle.answer.specs.Axis as Axis
use Rattle.answer.specs.Outcome.{Out, ok, on, in_column}
use Rattle.le.specs.Number.{numbers_each, numbers_at}
use Rattle.column.specs.Read.{decode_of}
use Rattle.extent.specs.Boxes.{patterns}
use Rattle.types.specs.Parts.{parts_rule}
use Rattle.frame.specs.declared.head.Head.{Head}
use Rattle.shape.specs.Outline.{Shape, outlines_of, registered}
use Rattle.shape.specs.Rules.{box_rule, outline_rules}

-- ---- what stands in a body, where its layout says

-- the register numbers
unfoldable pub registers_of : Head → List ℕ → List ℕ
registers_of h b = numbers_each h.layout.each 4 h.g b h.layout.registers

-- the types
unfoldable pub types_of : Head → List ℕ → List ℕ
types_of h b = take h.g (drop h.layout.types b)

-- the part counts
unfoldable pub counts_of : Head → List ℕ → List ℕ
counts_of h b = numbers_at 2 h.g b h.layout.counts

-- the part lengths
unfoldable pub lens_of : Head → List ℕ → List ℕ
lens_of h b = numbers_at 2 h.p b h.layout.lens

-- the bytes of the x column
unfoldable pub x_part : Head → List ℕ → List ℕ
x_part h b = take h.cx (drop h.layout.columns b)

-- the bytes of the y column, behind it
unfoldable pub y_part : Head → List ℕ → List ℕ
y_part h b = take h.cy (drop (h.layout.columns + h.cx) b)

-- the vertices of a page, by their x and their y
pub record Vertices : Type 0 where
  pub xs : List ℕ
  pub ys : List ℕ

-- N values of the bytes s as column c of a page: a refusal names that column
abbrev pub column_of : ℕ → List ℕ → ℕ → Out (List ℕ)
column_of c s n = in_column c (decode_of 64 s n)

-- the x column, then the y column
unfoldable pub vertices_of : Head → List ℕ → Out Vertices
vertices_of h b =
    on (column_of Axis.x (x_part h b) h.v) (λ xs.
    on (column_of Axis.y (y_part h b) h.v) (λ ys.
    ok (record { xs = xs; ys = ys })))

-- ---- the rules, in order

-- a page's shapes
unfoldable pub contents_of : Head → List ℕ → Out (List Shape)
contents_of h b =
    on (parts_rule (types_of h b) (counts_of h b) (lens_of h b) h.v) (λ _.
    on (vertices_of h b) (λ t.
    let os = outlines_of (types_of h b) (counts_of h b) (lens_of h b) t.xs t.ys in
    on (outline_rules os t.xs t.ys) (λ _.
    on (box_rule (patterns h.stored) t.xs t.ys) (λ _.
    ok (registered (registers_of h b) os)))))
