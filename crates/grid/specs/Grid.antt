-- On grid: the value, in decimetres, is a whole number from -2 ^ 24 to 2 ^ 24 (-0 is 0). A pattern is a number below 2 ^ 64. Assumes nothing.
use Rattle.std.specs.Prelude.{ℕ, ◌*◌, ◌/◌, ◌%◌, ◌^◌, Bool, false, ◌&&◌, List, leb, eqb, ℤ, pos, Float}
use Rattle.std.specs.Float.{nan, inf, fin, binary64}
use Rattle.std.specs.Float.Ieee.{up, down, of_bits}
use Rattle.answer.specs.All.{all_of}
use Rattle.extent.specs.Rank.{signed}

-- the size m * 2 ^ e, that is m * up e over down e, leaves nothing over and is at most 2 ^ 24; infinities and NaNs are off grid
abbrev pub on_grid_float : Float → Bool
on_grid_float nan = false
on_grid_float (inf s) = false
on_grid_float (fin s m e) = eqb (m * up e % down e) 0 && leb (m * up e / down e) (2 ^ 24)

-- that size, or with sign bit 1 minus it: -0 is 0
abbrev pub whole_of_float : Float → ℤ
whole_of_float nan = pos 0
whole_of_float (inf s) = pos 0
whole_of_float (fin s m e) = signed s (m * up e / down e)

-- a pattern's value is on grid
unfoldable pub on_grid : ℕ → Bool
on_grid b = on_grid_float (of_bits binary64 b)

-- a pattern's value as a whole number of decimetres, if it is one
unfoldable pub whole_of : ℕ → ℤ
whole_of b = whole_of_float (of_bits binary64 b)

-- all patterns of a list are on grid
abbrev pub all_on_grid : List ℕ → Bool
all_on_grid = all_of on_grid
