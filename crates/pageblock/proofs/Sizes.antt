-- How long the parts of a page's body are, and where they stand in it. Assumes nothing.
use Prim.Native.Nat.{ℕ, ◌+◌, ◌*◌, ◌≤◌}
use mathlib.Core.Path.{◌≡◌, ap, ◌∙◌}
use mathlib.Core.List.{List, ◌++◌}
use native.Mathlib.Omega.{arith}
use lib.ListN.{length, length-append}
use Rattle.le.specs.Number.{bytes_of, run_of}
use Rattle.le.proofs.Bytes.{length-bytes_of}
use Rattle.le.proofs.Runs.{length_run}
use Rattle.width.specs.Width.{width_of}
use Rattle.column.specs.declared.write.Fitted.{Fitted}
use Rattle.column.specs.Column.{encode}
use Rattle.extent.specs.declared.bounds.Bounds.{Bounds}
use Rattle.extent.specs.Boxes.{box_of}
use Rattle.column.proofs.Trips.{bytes_most}
use Rattle.block.specs.Kinds as kinds
use Rattle.frame.specs.declared.layout.Layout.{Layout}
use Rattle.frame.specs.Layout.{first_bytes, each, layout_of}
use Rattle.frame.proofs.Layouts.{registers-le, columns-at, columns-le, columns-are}
use Rattle.frame.proofs.Parts.{length-block}
use Rattle.pageblock.specs.Body.{Handed, count_bytes, box_bytes, table_bytes, column_bytes, body_of, page_bytes}
use Rattle.pageblock.specs.Ready.{Even, Laid, Sized}
use Rattle.pageblock.proofs.Passing.{even-limits}

pub length-counts : (g v p : ℕ) → length (count_bytes g v p) ≡ 6
unfolding count_bytes
length-counts g v p =
    length-append (bytes_of 2 g) (bytes_of 2 v ++ bytes_of 2 p)
    ∙ omega (arith, length-bytes_of 2 g, length-append (bytes_of 2 v) (bytes_of 2 p), length-bytes_of 2 v, length-bytes_of 2 p)

pub length-box : (b : Bounds) → length (box_bytes b) ≡ 32
unfolding box_bytes
length-box b =
    length-append (bytes_of 8 b.least_x) (bytes_of 8 b.least_y ++ (bytes_of 8 b.greatest_x ++ bytes_of 8 b.greatest_y))
    ∙ omega (
      arith,
      length-bytes_of 8 b.least_x,
      length-append (bytes_of 8 b.least_y) (bytes_of 8 b.greatest_x ++ bytes_of 8 b.greatest_y),
      length-bytes_of 8 b.least_y,
      length-append (bytes_of 8 b.greatest_x) (bytes_of 8 b.greatest_y),
      length-bytes_of 8 b.greatest_x,
      length-bytes_of 8 b.greatest_y,
    )

pub length-tables : (k : ℕ) (i : Handed)
    → length (table_bytes k i) ≡ k * length i.registers + length i.types + 2 * length i.counts + 2 * length i.lens
unfolding table_bytes
length-tables k i =
    length-append (run_of k i.registers) (i.types ++ (run_of 2 i.counts ++ run_of 2 i.lens))
    ∙ omega (
      arith,
      length_run k i.registers,
      length-append i.types (run_of 2 i.counts ++ run_of 2 i.lens),
      length-append (run_of 2 i.counts) (run_of 2 i.lens),
      length_run 2 i.counts,
      length_run 2 i.lens,
    )

pub length-columns : (xs ys : List ℕ) → length (column_bytes xs ys) ≡ 8 + length (encode 64 xs) + length (encode 64 ys)
unfolding column_bytes
length-columns xs ys =
    let cx = length (encode 64 xs) in
    let cy = length (encode 64 ys) in
    length-append (bytes_of 4 cx) (bytes_of 4 cy ++ (encode 64 xs ++ encode 64 ys))
    ∙ omega (
      arith,
      length-bytes_of 4 cx,
      length-append (bytes_of 4 cy) (encode 64 xs ++ encode 64 ys),
      length-bytes_of 4 cy,
      length-append (encode 64 xs) (encode 64 ys),
    )

-- the whole body
pub length-body : (ed : ℕ) (i : Handed) → length (body_of ed i)
    ≡ 46 + (each ed * length i.registers + length i.types + 2 * length i.counts + 2 * length i.lens) + length (encode 64 i.xs) + length (encode 64 i.ys)
unfolding body_of
length-body ed i =
    let c = count_bytes (length i.registers) (length i.xs) (length i.lens) in
    let b = box_bytes (box_of i.xs i.ys) in
    let t = table_bytes (each ed) i in
    let k = column_bytes i.xs i.ys in
    length-append c (b ++ (t ++ k))
    ∙ omega (
      arith,
      length-counts (length i.registers) (length i.xs) (length i.lens),
      length-append b (t ++ k),
      length-box (box_of i.xs i.ys),
      length-append t k,
      length-tables (each ed) i,
      length-columns i.xs i.ys,
    )

-- ---- by the layout

module _ (ed : ℕ) (i : Handed) (l : Layout) (e : l ≡ layout_of ed (length i.registers) (length i.lens)) where
  -- the tables stand behind the counts and the box
  pub tables-from : l.registers ≡ first_bytes
  unfolding layout_of
  tables-from = rw e

  -- as far apart as the edition says
  pub each_of : l.each ≡ each ed
  unfolding layout_of
  each_of = rw e

  -- one behind the other
  pub laid : Even i → Laid l i
  unfolding layout_of each
  laid v = record {
    one = rw e;
    types_at = rw e;
    counts_at = rw (e, v.types_even);
    lens_at = rw (e, v.counts_even);
    sizes_at = rw e;
  }

  module _ (v : Even i) where
    -- the byte lengths behind the tables
    pub sizes_at : l.sizes ≡ 38 + length (table_bytes (each ed) i)
    sizes_at =
        let g = length i.registers in
        let p = length i.lens in
        omega (
          arith,
          ap (λ (x : Layout). x.sizes) e,
          columns-at ed g p,
          columns-are ed g p,
          length-tables (each ed) i,
          v.types_even,
          v.counts_even,
        )

    -- not far
    pub sizes-few : l.sizes ≤ 6950
    sizes-few =
        let m = even-limits i v in
        omega (
          arith,
          sizes_at,
          length-tables (each ed) i,
          registers-le ed (length i.registers) m.few,
          v.types_even,
          v.counts_even,
          m.few,
          m.parts,
          m.vertices,
        )

    -- and the columns end the body
    pub body-size : (cx cy : ℕ) → cx ≡ length (encode 64 i.xs) → cy ≡ length (encode 64 i.ys) → l.columns + cx + cy ≡ length (body_of ed i)
    body-size cx cy x y =
        let g = length i.registers in
        let p = length i.lens in
        omega (arith, ap (λ (k : Layout). k.columns) e, columns-are ed g p, length-body ed i, v.types_even, v.counts_even, x, y)

    -- which is not long
    pub columns-few : l.columns ≤ 6958
    columns-few =
        let g = length i.registers in
        let p = length i.lens in
        let m = even-limits i v in
        omega (arith, ap (λ (k : Layout). k.columns) e, columns-le ed g p m.few (omega (arith, m.parts, m.vertices)))

-- a column that was measured
pub sized : (vs : List ℕ) (f : Fitted) → f.width ≡ width_of 64 vs → f.bytes ≡ length (encode 64 vs) → Sized vs f
sized vs f w b = record { width = w; size = b }

-- a column of a page is no longer than one of 2,048 values
pub column-most : (vs : List ℕ) → length vs ≤ 2048 → length (encode 64 vs) ≤ 16385
column-most vs h = omega (arith, bytes_most vs)

-- the block's size
pub length-page : (ed : ℕ) (i : Handed) → length (page_bytes ed i) ≡ 6 + length (body_of ed i)
unfolding page_bytes
length-page ed i = length-block kinds.page (body_of ed i)
