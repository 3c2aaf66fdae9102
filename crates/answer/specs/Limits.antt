-- The limits of document 01. Names for numbers, and nothing else.
use Rattle.std.specs.Prelude.{ℕ}

-- values of a column, vertices of a page, and so its parts; vertices of a single shape from outside
abbrev pub vertex_limit : ℕ
vertex_limit = 2048

-- shapes of a page
abbrev pub most_page_shapes : ℕ
most_page_shapes = 256

-- pages of a file
abbrev pub most_pages : ℕ
most_pages = 1024

-- shapes of a file: as many in each of as many pages
abbrev pub most_shapes : ℕ
most_shapes = 262144

-- bytes of a file that a program takes
abbrev pub most_input : ℕ
most_input = 40960
