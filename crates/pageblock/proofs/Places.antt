-- Where the parts of a page's body stand. Assumes nothing.
use Prim.Native.Nat.{ℕ, ◌+◌, ◌*◌}
use mathlib.Core.Path.{◌≡◌, refl, sym, ◌∙◌}
use mathlib.Core.List.{List, [], ◌++◌, append_assoc, append-nil}
use native.Mathlib.Omega.{arith}
use lib.ListN.{length, drop}
use Rattle.le.specs.Number.{bytes_of, run_of}
use Rattle.le.proofs.Bytes.{length-bytes_of}
use Rattle.le.proofs.Runs.{length_run}
use Rattle.column.specs.Column.{encode}
use Rattle.extent.specs.declared.bounds.Bounds.{Bounds}
use Rattle.extent.specs.Boxes.{box_of}
use Rattle.frame.specs.Layout.{each}
use Rattle.pageblock.specs.Body.{Handed, count_bytes, box_bytes, table_bytes, column_bytes, body_of}
use Rattle.pageblock.proofs.Sizes.{length-counts, length-box, length-tables}
use Rattle.pageblock.proofs.Standing.{behind}

module _ (ed : ℕ) (i : Handed) where
  abbrev g : ℕ
  g = length i.registers

  abbrev v : ℕ
  v = length i.xs

  abbrev p : ℕ
  p = length i.lens

  abbrev box : Bounds
  box = box_of i.xs i.ys

  abbrev tables : List ℕ
  tables = table_bytes (each ed) i

  abbrev columns : List ℕ
  columns = column_bytes i.xs i.ys

  abbrev x : List ℕ
  x = encode 64 i.xs

  abbrev y : List ℕ
  y = encode 64 i.ys

  -- ---- the counts

  pub at-counts : drop 0 (body_of ed i) ≡ count_bytes (length i.registers) (length i.xs) (length i.lens) ++ (box_bytes (box_of i.xs i.ys) ++ (table_bytes (each ed) i ++ column_bytes i.xs i.ys))
  unfolding body_of
  at-counts = refl

  pub at_g : (r : List ℕ) × (drop 0 (body_of ed i) ≡ bytes_of 2 (length i.registers) ++ ((bytes_of 2 (length i.xs) ++ bytes_of 2 (length i.lens)) ++ r))
  unfolding count_bytes
  at_g = (box_bytes box ++ (tables ++ columns), at-counts ∙ append_assoc (bytes_of 2 g) (bytes_of 2 v ++ bytes_of 2 p) (box_bytes box ++ (tables ++ columns)))

  pub at-v : (r : List ℕ) × (drop 2 (body_of ed i) ≡ bytes_of 2 (length i.xs) ++ (bytes_of 2 (length i.lens) ++ r))
  at-v = (at_g.0, behind (body_of ed i) (bytes_of 2 g) _ 0 2 at_g.1 (omega (arith, length-bytes_of 2 g)) ∙ append_assoc (bytes_of 2 v) (bytes_of 2 p) at_g.0)

  pub at_p : (r : List ℕ) × (drop 4 (body_of ed i) ≡ bytes_of 2 (length i.lens) ++ r)
  at_p = (at-v.0, behind (body_of ed i) (bytes_of 2 v) _ 2 4 at-v.1 (omega (arith, length-bytes_of 2 v)))

  -- ---- the box

  at-box : drop 6 (body_of ed i) ≡ box_bytes box ++ (tables ++ columns)
  at-box = behind (body_of ed i) (count_bytes g v p) _ 0 6 at-counts (omega (arith, length-counts g v p))

  abbrev lx : List ℕ
  lx = bytes_of 8 (box_of i.xs i.ys).least_x

  abbrev ly : List ℕ
  ly = bytes_of 8 (box_of i.xs i.ys).least_y

  abbrev gx : List ℕ
  gx = bytes_of 8 (box_of i.xs i.ys).greatest_x

  abbrev gy : List ℕ
  gy = bytes_of 8 (box_of i.xs i.ys).greatest_y

  pub at-least-x : (r : List ℕ) × (drop 6 (body_of ed i) ≡ bytes_of 8 (box_of i.xs i.ys).least_x ++ ((ly ++ (gx ++ gy)) ++ r))
  unfolding box_bytes
  at-least-x = (tables ++ columns, at-box ∙ append_assoc lx (ly ++ (gx ++ gy)) (tables ++ columns))

  pub at-least-y : (r : List ℕ) × (drop 14 (body_of ed i) ≡ bytes_of 8 (box_of i.xs i.ys).least_y ++ ((gx ++ gy) ++ r))
  at-least-y =
      (at-least-x.0, behind (body_of ed i) lx _ 6 14 at-least-x.1 (omega (arith, length-bytes_of 8 box.least_x)) ∙ append_assoc ly (gx ++ gy) at-least-x.0)

  pub at-greatest-x : (r : List ℕ) × (drop 22 (body_of ed i) ≡ bytes_of 8 (box_of i.xs i.ys).greatest_x ++ (gy ++ r))
  at-greatest-x =
      (at-least-y.0, behind (body_of ed i) ly _ 14 22 at-least-y.1 (omega (arith, length-bytes_of 8 box.least_y)) ∙ append_assoc gx gy at-least-y.0)

  pub at-greatest-y : (r : List ℕ) × (drop 30 (body_of ed i) ≡ bytes_of 8 (box_of i.xs i.ys).greatest_y ++ r)
  at-greatest-y = (at-greatest-x.0, behind (body_of ed i) gx _ 22 30 at-greatest-x.1 (omega (arith, length-bytes_of 8 box.greatest_x)))

  -- ---- the tables

  at-tables : drop 38 (body_of ed i) ≡ tables ++ columns
  at-tables = behind (body_of ed i) (box_bytes box) _ 6 38 at-box (omega (arith, length-box box))

  pub at-registers : (r : List ℕ) × (drop 38 (body_of ed i) ≡ run_of (each ed) i.registers ++ ((i.types ++ (run_of 2 i.counts ++ run_of 2 i.lens)) ++ r))
  unfolding table_bytes
  at-registers = (columns, at-tables ∙ append_assoc (run_of (each ed) i.registers) (i.types ++ (run_of 2 i.counts ++ run_of 2 i.lens)) columns)

  module _ (types counts lens sizes : ℕ) (et : types ≡ 38 + each ed * length i.registers) (ec : counts ≡ types + length i.types) (el : lens ≡ counts + 2 * length i.counts)
      (es : sizes ≡ lens + 2 * length i.lens) where
    pub at-types : (r : List ℕ) × (drop types (body_of ed i) ≡ i.types ++ ((run_of 2 i.counts ++ run_of 2 i.lens) ++ r))
    at-types = (
      at-registers.0,
      behind (body_of ed i) (run_of (each ed) i.registers) _ 38 types at-registers.1 (omega (arith, length_run (each ed) i.registers, et))
          ∙ append_assoc i.types (run_of 2 i.counts ++ run_of 2 i.lens) at-registers.0,
    )

    pub at-part-counts : (r : List ℕ) × (drop counts (body_of ed i) ≡ run_of 2 i.counts ++ (run_of 2 i.lens ++ r))
    at-part-counts =
        (at-types.0, behind (body_of ed i) i.types _ types counts at-types.1 ec ∙ append_assoc (run_of 2 i.counts) (run_of 2 i.lens) at-types.0)

    pub at-lens : (r : List ℕ) × (drop lens (body_of ed i) ≡ run_of 2 i.lens ++ r)
    at-lens = (at-part-counts.0, behind (body_of ed i) (run_of 2 i.counts) _ counts lens at-part-counts.1 (omega (arith, length_run 2 i.counts, el)))

    -- ---- the columns

    at-columns : drop sizes (body_of ed i) ≡ columns
    at-columns = behind (body_of ed i) tables _ 38 sizes at-tables (omega (arith, length-tables (each ed) i, es, el, ec, et))

    pub at-cx : drop sizes (body_of ed i) ≡ bytes_of 4 (length (encode 64 i.xs)) ++ (bytes_of 4 (length (encode 64 i.ys)) ++ (encode 64 i.xs ++ encode 64 i.ys))
    unfolding column_bytes
    at-cx = at-columns

    pub at-cy : drop (sizes + 4) (body_of ed i) ≡ bytes_of 4 (length (encode 64 i.ys)) ++ (encode 64 i.xs ++ encode 64 i.ys)
    at-cy = behind (body_of ed i) (bytes_of 4 (length x)) _ sizes (sizes + 4) at-cx (omega (arith, length-bytes_of 4 (length x)))

    pub at_x : drop (sizes + 8) (body_of ed i) ≡ encode 64 i.xs ++ encode 64 i.ys
    at_x = behind (body_of ed i) (bytes_of 4 (length y)) _ (sizes + 4) (sizes + 8) at-cy (omega (arith, length-bytes_of 4 (length y)))

    pub at_y : drop (sizes + 8 + length (encode 64 i.xs)) (body_of ed i) ≡ encode 64 i.ys ++ []
    at_y = behind (body_of ed i) x _ (sizes + 8) (sizes + 8 + length x) at_x refl ∙ sym (append-nil y)
