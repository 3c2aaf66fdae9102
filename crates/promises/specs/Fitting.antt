-- A room that no permitted width would fit: "Since the size is least, 2 comes exactly when no permitted width would fit." Assumes nothing.
use Rattle.std.specs.Prelude.{ℕ, ◌≤◌, ◌<◌, List, length}
use Rattle.column.specs.Column.{encode_at}

-- no width's bytes fit a room of this size
abbrev pub NoneFits : ℕ → List ℕ → ℕ → Type 0
NoneFits P vs size = (n : ℕ) → n ≤ P → size < length (encode_at P n vs)
