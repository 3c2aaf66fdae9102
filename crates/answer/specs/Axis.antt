-- The columns of a page, as a refusal names them. Names for numbers, and nothing else.
use Rattle.std.specs.Prelude.{ℕ}

-- no column of a page
abbrev pub none : ℕ
none = 0

-- the x column
abbrev pub x : ℕ
x = 1

-- the y column
abbrev pub y : ℕ
y = 2
