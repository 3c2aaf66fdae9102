-- What the putting of a page counts on, since the rules before it passed and the columns were measured: for inner walks; no service speaks of it.
-- Assumes nothing.
use Rattle.std.specs.Prelude.{ℕ, ◌+◌, ◌*◌, ◌≤◌, ◌≡◌, true, List, length}
use Rattle.answer.specs.Limits.{vertex_limit}
use Rattle.width.specs.Width.{width_of}
use Rattle.column.specs.declared.write.Fitted.{Fitted}
use Rattle.column.specs.Column.{encode}
use Rattle.extent.specs.Rank.{all_finite}
use Rattle.frame.specs.declared.layout.Layout.{Layout}
use Rattle.frame.specs.Layout.{layout_of}
use Rattle.frame.specs.Head.{counts_ok}
use Rattle.pageblock.specs.declared.plan.Plan.{Plan}
use Rattle.pageblock.specs.Body.{Handed, body_of}

-- slices that are even, and counts within the limits
pub record Even (i : Handed) : Type 0 where
  pub types_even : length i.types ≡ length i.registers
  pub counts_even : length i.counts ≡ length i.registers
  pub vertices_even : length i.ys ≡ length i.xs
  pub within : counts_ok (length i.registers) (length i.xs) (length i.lens) ≡ true

-- vertices: a y for each x, not over 2,048, all finite
pub record FiniteVertices (xs ys : List ℕ) : Type 0 where
  pub same : length ys ≡ length xs
  pub few : length xs ≤ vertex_limit
  pub finite_x : all_finite xs ≡ true
  pub finite_y : all_finite ys ≡ true

-- the tables stand one behind the other, a register taking its number's four bytes
pub record Laid (l : Layout) (i : Handed) : Type 0 where
  pub one : l.each ≡ 4
  pub types_at : l.types ≡ l.registers + 4 * length i.registers
  pub counts_at : l.counts ≡ l.types + length i.types
  pub lens_at : l.lens ≡ l.counts + 2 * length i.counts
  pub sizes_at : l.sizes ≡ l.lens + 2 * length i.lens

-- the width and the size of the column of vs
pub record Sized (vs : List ℕ) (f : Fitted) : Type 0 where
  pub width : f.width ≡ width_of 64 vs
  pub size : f.bytes ≡ length (encode 64 vs)

-- the plan of a page that every rule let pass
pub record Planned (i : Handed) (plan : Plan) : Type 0 where
  pub even : Even i
  pub vertices : FiniteVertices i.xs i.ys
  pub layout : plan.layout ≡ layout_of plan.edition (length i.registers) (length i.lens)
  pub x : Sized i.xs plan.x
  pub y : Sized i.ys plan.y
  pub whole : plan.len ≡ length (body_of plan.edition i)
