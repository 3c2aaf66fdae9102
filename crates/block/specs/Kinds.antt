-- The kinds of blocks. Names for numbers, and nothing else.
use Rattle.std.specs.Prelude.{ℕ}

-- the first block of a file, which says its edition
abbrev pub first : ℕ
first = 1

-- a page
abbrev pub page : ℕ
page = 2

-- the end of a file
abbrev pub end : ℕ
end = 3

-- a query
abbrev pub query : ℕ
query = 4
