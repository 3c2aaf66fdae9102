-- Which parts and which vertices of a page are a shape's own: those behind the parts and the vertices of the shapes before it. Assumes nothing.
use Rattle.std.specs.Prelude.{ℕ, ◌+◌, ◌-◌, List, get_or, take, drop}
use Rattle.types.specs.Parts.{total}
use Rattle.shape.specs.Outline.{Shape, outline_with}
use Rattle.place.specs.declared.row.Row.{Row}
use Rattle.place.specs.declared.span.Span.{Span}

-- by part counts and part lengths, of the shape at index i: its first part and the one behind its last, its first vertex and the one behind its last
unfoldable pub span_of : List ℕ → List ℕ → ℕ → Span
span_of counts lens i =
    let part = total (take i counts) in
    let past = part + get_or counts i 0 in
    record { part = part; part_end = past; vertex = total (take part lens); vertex_end = total (take past lens) }

-- the shape with that row and those parts and vertices
unfoldable pub shape_from : Row → Span → List ℕ → List ℕ → List ℕ → Shape
shape_from r p lens xs ys =
    let parts = p.part_end - p.part in
    let vertices = p.vertex_end - p.vertex in
    record {
      register = r.register;
      outline = outline_with r.kind (take parts (drop p.part lens)) (take vertices (drop p.vertex xs)) (take vertices (drop p.vertex ys));
    }
