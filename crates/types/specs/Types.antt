-- The types of shapes and their table, of document 01: parts, and vertices in each part. Assumes nothing.
use Rattle.std.specs.Prelude.{ℕ, Bool, true, false, List, [], ◌∷◌, get_or}
use Rattle.types.specs.declared.rows.TypeRow.{TypeRow}

-- ---- the types

-- empty
abbrev pub empty : ℕ
empty = 0

-- Point
abbrev pub point : ℕ
point = 1

-- LineString
abbrev pub line_string : ℕ
line_string = 2

-- Polygon
abbrev pub polygon : ℕ
polygon = 3

-- MultiPoint
abbrev pub multi_point : ℕ
multi_point = 4

-- MultiLineString
abbrev pub multi_line_string : ℕ
multi_line_string = 5

-- MultiPolygon
abbrev pub multi_polygon : ℕ
multi_polygon = 6

-- the last of them
abbrev pub last_type : ℕ
last_type = multi_polygon

-- ---- the table

-- "or more": up to the most that a part count or a part length can say
abbrev pub more : ℕ
more = 65535

-- a row: least and most parts; least and most vertices in each part; each part is a ring, or not
abbrev pub row_with : ℕ → ℕ → ℕ → ℕ → Bool → TypeRow
row_with least-parts most-parts least-vertices most-vertices rings = record {
  least_parts = least-parts;
  most_parts = most-parts;
  least_vertices = least-vertices;
  most_vertices = most-vertices;
  rings = rings;
}

-- 0: no part, no vertex
abbrev pub empty_row : TypeRow
empty_row = row_with 0 0 0 0 false

-- 1: one part of one
abbrev pub point_row : TypeRow
point_row = row_with 1 1 1 1 false

-- 2: one part of 2 or more
abbrev pub line_string_row : TypeRow
line_string_row = row_with 1 1 2 more false

-- 3: 1 or more parts of 4 or more, closed
abbrev pub polygon_row : TypeRow
polygon_row = row_with 1 more 4 more true

-- 4: 1 or more parts of one
abbrev pub multi_point_row : TypeRow
multi_point_row = row_with 1 more 1 1 false

-- 5: 1 or more parts of 2 or more
abbrev pub multi_line_string_row : TypeRow
multi_line_string_row = row_with 1 more 2 more false

-- 6: 1 or more parts of 4 or more, closed
abbrev pub multi_polygon_row : TypeRow
multi_polygon_row = row_with 1 more 4 more true

-- the table, by type
abbrev pub type_rows : List TypeRow
type_rows = empty_row ∷ point_row ∷ line_string_row ∷ polygon_row ∷ multi_point_row ∷ multi_line_string_row ∷ multi_polygon_row ∷ []

-- the row of a type
unfoldable pub type_row : ℕ → TypeRow
type_row t = get_or type_rows t empty_row
