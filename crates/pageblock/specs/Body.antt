-- The body of a page, as the writer makes it: "shapes g, vertices v, parts p (u16 each); box (4 × 8 bytes; all zero bytes if v = 0); g register
-- numbers (u32); g types (u8); g part counts (u16); p part lengths (u16); byte lengths cx, cy (u32 each); the x column; the y column". Assumes
-- nothing.
use Rattle.std.specs.Prelude.{ℕ, List, ◌++◌, length}
use Rattle.le.specs.Number.{bytes_of, run_of}
use Rattle.column.specs.Column.{encode}
use Rattle.extent.specs.declared.bounds.Bounds.{Bounds}
use Rattle.extent.specs.Boxes.{box_of}
use Rattle.block.specs.Kinds as kinds
use Rattle.frame.specs.Layout.{each}
use Rattle.frame.specs.Whole.{block_of}
use Rattle.pageblock.specs.declared.lists.PageLists.{PageLists}

-- what a page call is handed: the shapes' registers, types and part counts, the parts' lengths, and the patterns of the vertices
pub record Handed : Type 0 where
  pub registers : List ℕ
  pub types : List ℕ
  pub counts : List ℕ
  pub lens : List ℕ
  pub xs : List ℕ
  pub ys : List ℕ

-- the same, by the six of them
abbrev pub handed_with : List ℕ → List ℕ → List ℕ → List ℕ → List ℕ → List ℕ → Handed
handed_with registers types counts lens xs ys = record { registers = registers; types = types; counts = counts; lens = lens; xs = xs; ys = ys }

-- the same, by the six slices of a call
abbrev pub handed_of : PageLists → Handed
handed_of l = handed_with l.registers.now l.types.now l.counts.now l.lens.now l.xs.now l.ys.now

-- how many shapes, vertices and parts, two bytes each
unfoldable pub count_bytes : ℕ → ℕ → ℕ → List ℕ
count_bytes g v p = bytes_of 2 g ++ (bytes_of 2 v ++ bytes_of 2 p)

-- a box, eight bytes each: least x, least y, greatest x, greatest y
unfoldable pub box_bytes : Bounds → List ℕ
box_bytes b = bytes_of 8 b.least_x ++ (bytes_of 8 b.least_y ++ (bytes_of 8 b.greatest_x ++ bytes_of 8 b.greatest_y))

-- the registers, so many bytes each, the types, the part counts, the part lengths
unfoldable pub table_bytes : ℕ → Handed → List ℕ
table_bytes each i = run_of each i.registers ++ (i.types ++ (run_of 2 i.counts ++ run_of 2 i.lens))

-- the byte lengths of the two columns, the x column, the y column
unfoldable pub column_bytes : List ℕ → List ℕ → List ℕ
column_bytes xs ys = bytes_of 4 (length (encode 64 xs)) ++ (bytes_of 4 (length (encode 64 ys)) ++ (encode 64 xs ++ encode 64 ys))

-- the body in an edition: the counts, the box of the vertices (first met among equals; of no vertex all zero), the tables, the columns
unfoldable pub body_of : ℕ → Handed → List ℕ
body_of edition i =
    count_bytes (length i.registers) (length i.xs) (length i.lens)
    ++ (box_bytes (box_of i.xs i.ys)
    ++ (table_bytes (each edition) i
    ++ column_bytes i.xs i.ys))

-- the block of a page
unfoldable pub page_bytes : ℕ → Handed → List ℕ
page_bytes edition i = block_of kinds.page (body_of edition i)
