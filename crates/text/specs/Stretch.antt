-- A stretch of a text: bytes that stand in it one behind the other, from a place on. Assumes nothing.
use Rattle.std.specs.Prelude.{ℕ, ◌+◌, ◌≤◌, ◌≡◌, List, length, take, drop}

-- the bytes l stand in the text from place k on, and end within it
pub record Stretch (text : List ℕ) (k : ℕ) (l : List ℕ) : Type 0 where
  pub within : k + length l ≤ length text
  pub same : take (length l) (drop k text) ≡ l
