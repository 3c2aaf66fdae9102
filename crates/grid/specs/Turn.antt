-- A ring's turn is the sum of x(i)y(i+1) - x(i+1)y(i) over its edges, as whole numbers. Assumes nothing.
use Rattle.std.specs.Prelude.{ℕ, zero, suc, Bool, true, false, List, [], ◌∷◌, ℤ, pos, negsuc, ◌+ℤ◌, ◌-ℤ◌, ◌*ℤ◌}
use Rattle.grid.specs.Grid.{whole_of}

-- what the edge from x0, y0 to x1, y1 adds
abbrev pub edge : ℤ → ℤ → ℤ → ℤ → ℤ
edge x0 y0 x1 y1 = x0 *ℤ y1 -ℤ x1 *ℤ y0

-- over the vertices of a ring, by their x and their y
unfoldable pub turn_of : List ℕ → List ℕ → ℤ
turn_of (x0 ∷ x1 ∷ xs) (y0 ∷ y1 ∷ ys) = edge (whole_of x0) (whole_of y0) (whole_of x1) (whole_of y1) +ℤ turn_of (x1 ∷ xs) (y1 ∷ ys)
turn_of (x0 ∷ x1 ∷ xs) (y0 ∷ []) = pos 0
turn_of (x0 ∷ x1 ∷ xs) [] = pos 0
turn_of (x0 ∷ []) ys = pos 0
turn_of [] ys = pos 0

-- negative is clockwise
unfoldable pub clockwise : ℤ → Bool
clockwise (pos n) = false
clockwise (negsuc n) = true

-- zero is refused
unfoldable pub zero_turn : ℤ → Bool
zero_turn (pos zero) = true
zero_turn (pos (suc n)) = false
zero_turn (negsuc n) = false
