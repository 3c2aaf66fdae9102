-- What a store of a field does to a list of bytes: for inner walks; no service speaks of it. Assumes nothing.
use Rattle.std.specs.Prelude.{ℕ, ◌+◌, ◌*◌, ◌/◌, ◌%◌, ◌^◌, List}
use Rattle.std.proofs.lemmas.List.Edits.{sets}
use Rattle.le.specs.Number.{number, bytes_of}

-- s with v from bit place at on: below the place stands what stood there, and the bits above v, to the end of the ninth byte from the
-- place's own, become zero. A byte past the end is not stored
unfoldable pub put_field : List ℕ → ℕ → ℕ → List ℕ
put_field s at v = sets s (at / 8) (bytes_of 9 (v * 2 ^ (at % 8) + number s / 2 ^ (8 * (at / 8)) % 2 ^ (at % 8)))
