-- Worked numbers, by computation. Assumes nothing.
use mathlib.Core.Path.{◌≡◌, refl}
use mathlib.Core.Bool.{true, false}
use mathlib.Core.List.{[], ◌∷◌}
use Prim.Native.Nat.{ℕ, ◌*◌, ◌+◌, ◌^◌}
use lib.IntN.{pos, neg_ℤ}
use lib.Ieee.{of_bits, of_fields}
use Rattle.grid.specs.Grid.{on_grid, whole_of}
use Rattle.grid.specs.Turn.{turn_of, clockwise}

-- ---- patterns: the exponent's field at 2 ^ 52, then the digits

abbrev ten : ℕ
ten = 1026 * 2 ^ 52 + 2 ^ 50

-- 2 ^ 24, and 2 ^ 24 + 1
abbrev most : ℕ
most = 1047 * 2 ^ 52

abbrev most_and_one : ℕ
most_and_one = 1047 * 2 ^ 52 + 2 ^ 28

abbrev half : ℕ
half = 1022 * 2 ^ 52

abbrev minus_zero : ℕ
minus_zero = 2 ^ 63

-- ---- the grid

pub most-on-grid : on_grid most ≡ true
unfolding on_grid of_bits of_fields
most-on-grid = refl

pub most-whole : whole_of most ≡ pos 16777216
unfolding whole_of of_bits of_fields
most-whole = refl

pub past-off-grid : on_grid most_and_one ≡ false
unfolding on_grid of_bits of_fields
past-off-grid = refl

pub half-off-grid : on_grid half ≡ false
unfolding on_grid of_bits of_fields
half-off-grid = refl

pub minus-zero-on-grid : on_grid minus_zero ≡ true
unfolding on_grid of_bits of_fields
minus-zero-on-grid = refl

pub minus-zero-whole : whole_of minus_zero ≡ pos 0
unfolding whole_of of_bits of_fields
minus-zero-whole = refl

-- ---- the turn of (0,0) (0,10) (10,10) (10,0) (0,0), the ring of the sample file's first shape

pub sample-turn : turn_of (0 ∷ 0 ∷ ten ∷ ten ∷ 0 ∷ []) (0 ∷ ten ∷ ten ∷ 0 ∷ 0 ∷ []) ≡ neg_ℤ (pos 200)
unfolding turn_of whole_of of_bits of_fields
sample-turn = refl

pub sample-clockwise : clockwise (neg_ℤ (pos 200)) ≡ true
unfolding clockwise
sample-clockwise = refl
