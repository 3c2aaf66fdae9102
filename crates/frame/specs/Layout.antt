-- Where things stand in a page's body: "shapes g, vertices v, parts p (u16 each); box (4 × 8 bytes); g register numbers (u32); g types (u8);
-- g part counts (u16); p part lengths (u16); byte lengths cx, cy (u32 each); the x column; the y column". This file alone knows it. Assumes
-- nothing.
use Rattle.std.specs.Prelude.{ℕ, ◌+◌, ◌*◌}
use Rattle.frame.specs.declared.layout.Layout.{Layout}

-- the edition that is written, and the only one that is read
abbrev pub the_edition : ℕ
the_edition = 1

-- ---- what stands first, in every edition

-- how many shapes
abbrev pub shapes_place : ℕ
shapes_place = 0

-- how many vertices
abbrev pub vertices_place : ℕ
vertices_place = 2

-- how many parts
abbrev pub parts_place : ℕ
parts_place = 4

-- the box
abbrev pub bounds_place : ℕ
bounds_place = 6

-- the bytes of these, which every page has; behind them come the registers
abbrev pub first_bytes : ℕ
first_bytes = 38

-- ---- what follows, by edition

-- the bytes from one register to the next: in edition 1 its number and nothing more
unfoldable pub each : ℕ → ℕ
each edition = 4

-- the place of the byte length of the y column behind that of the x column
abbrev pub second_size : ℕ
second_size = 4

-- the layout of a body with g shapes and p parts
unfoldable pub layout_of : ℕ → ℕ → ℕ → Layout
layout_of edition g p =
    let types = first_bytes + each edition * g in
    let counts = types + g in
    let lens = counts + 2 * g in
    let sizes = lens + 2 * p in
    record { registers = first_bytes; each = each edition; types = types; counts = counts; lens = lens; sizes = sizes; columns = sizes + 8 }
