-- What a rule of a page's shapes, or of one shape, counts on, since the rules before it passed: for inner walks; no service speaks of it. Assumes nothing.
use Rattle.std.specs.Prelude.{ℕ, ◌≤◌, ◌≡◌, true, List, length}
use Rattle.answer.specs.Limits.{vertex_limit}
use Rattle.types.specs.Parts.{total, parts_hold}
use Rattle.grid.specs.Grid.{all_on_grid}

-- a page's lists that rule 11 let pass: a y for each x, not over 2,048 vertices
pub record Parted (types counts lens xs ys : List ℕ) : Type 0 where
  pub parts : parts_hold types counts lens (length xs) ≡ true
  pub same : length ys ≡ length xs
  pub few : length xs ≤ vertex_limit

-- part lengths that make up the vertices
pub record Cut (lens xs ys : List ℕ) : Type 0 where
  pub sum : total lens ≡ length xs
  pub same : length ys ≡ length xs

-- vertices on grid, not over 2,048
pub record Gridded (xs ys : List ℕ) : Type 0 where
  pub same : length ys ≡ length xs
  pub few : length xs ≤ vertex_limit
  pub grid_x : all_on_grid xs ≡ true
  pub grid_y : all_on_grid ys ≡ true
