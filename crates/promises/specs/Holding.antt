-- What a column holds, with no order of refusals: "The reader accepts every width 0 to 64, and a full value where a step would have fitted."
-- Assumes nothing.
use Rattle.std.specs.Prelude.{ℕ, ◌≤◌, ◌≡◌, List, length}
use Rattle.answer.specs.Limits.{vertex_limit}
use Rattle.le.specs.Number.{Fits}
use Rattle.column.specs.Column.{IsColumn}

-- the list vs is n values of the column s, and n values and room for them may be asked for
pub record ColumnHolds (P : ℕ) (s : List ℕ) (n room : ℕ) (vs : List ℕ) : Type 0 where
  pub column : IsColumn P s vs
  pub patterns : Fits P vs
  pub count : length vs ≡ n
  pub few : n ≤ vertex_limit
  pub enough : n ≤ room
