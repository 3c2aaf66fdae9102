-- The sum of values, wrapped at 64 bits. Assumes nothing.
use Rattle.std.specs.Prelude.{ℕ, ◌+◌, ◌%◌, ◌^◌, List, [], ◌∷◌}

-- of none 0; of more, the first and the sum of the others
unfoldable pub sum_of : List ℕ → ℕ
sum_of [] = 0
sum_of (v ∷ vs) = (v + sum_of vs) % 2 ^ 64
