-- The sample file of document 01, byte by byte: "Page 0: register 101, Polygon (0,0) (0,10) (10,10) (10,0) (0,0); register 102, Point (20,5).
-- Page 1: register 101, LineString (-5,-5) (-1,-1); register 103, empty." The bytes were worked out from the document apart from the code.
-- Assumes nothing.
use Rattle.std.specs.Prelude.{ℕ, suc, ◌≡◌, List, [], ◌∷◌, ◌++◌, take, drop}
use Rattle.answer.specs.Axis as Axis
use Rattle.answer.specs.Table.{lengths, bits}
use Rattle.answer.specs.Refusal.{because, at_value, on_column, on_page}
use Rattle.answer.specs.Outcome.{Out, refused, ok, on}
use Rattle.query.specs.Block.{ask_of, block_with}
use Rattle.frame.specs.Frame.{frame_of, shapes_of}
use Rattle.place.specs.Rows.{rows_in}
use Rattle.search.specs.Search.{search_of}

-- the bytes
abbrev pub sample : List ℕ
sample =
    -- length of the body
    2 ∷ 0 ∷ 0 ∷ 0 ∷
    -- kind 1
    1 ∷ 0 ∷
    -- edition 1
    1 ∷ 0 ∷
    -- page 0: length of the body
    132 ∷ 0 ∷ 0 ∷ 0 ∷
    -- kind 2
    2 ∷ 0 ∷
    -- 2 shapes
    2 ∷ 0 ∷
    -- 6 vertices
    6 ∷ 0 ∷
    -- 2 parts
    2 ∷ 0 ∷
    -- least x: 0
    0 ∷ 0 ∷ 0 ∷ 0 ∷ 0 ∷ 0 ∷ 0 ∷ 0 ∷
    -- least y: 0
    0 ∷ 0 ∷ 0 ∷ 0 ∷ 0 ∷ 0 ∷ 0 ∷ 0 ∷
    -- greatest x: 20
    0 ∷ 0 ∷ 0 ∷ 0 ∷ 0 ∷ 0 ∷ 52 ∷ 64 ∷
    -- greatest y: 10
    0 ∷ 0 ∷ 0 ∷ 0 ∷ 0 ∷ 0 ∷ 36 ∷ 64 ∷
    -- register 101
    101 ∷ 0 ∷ 0 ∷ 0 ∷
    -- register 102
    102 ∷ 0 ∷ 0 ∷ 0 ∷
    -- types 3, 1
    3 ∷ 1 ∷
    -- 1 part
    1 ∷ 0 ∷
    -- 1 part
    1 ∷ 0 ∷
    -- a part of 5
    5 ∷ 0 ∷
    -- a part of 1
    1 ∷ 0 ∷
    -- the x column takes 34 bytes
    34 ∷ 0 ∷ 0 ∷ 0 ∷
    -- the y column takes 34 bytes
    34 ∷ 0 ∷ 0 ∷ 0 ∷
    -- the x column
    1 ∷ 0 ∷ 0 ∷ 0 ∷ 0 ∷ 0 ∷ 0 ∷ 0 ∷ 0 ∷ 2 ∷ 0 ∷ 0 ∷ 0 ∷ 0 ∷ 0 ∷ 144 ∷ 0 ∷ 9 ∷ 0 ∷ 0 ∷ 0 ∷ 0 ∷ 0 ∷ 0 ∷
    0 ∷ 16 ∷ 0 ∷ 0 ∷ 0 ∷ 0 ∷ 0 ∷ 128 ∷ 6 ∷ 8 ∷
    -- the y column
    1 ∷ 0 ∷ 0 ∷ 0 ∷ 0 ∷ 0 ∷ 0 ∷ 0 ∷ 0 ∷ 1 ∷ 0 ∷ 0 ∷ 0 ∷ 0 ∷ 0 ∷ 72 ∷ 128 ∷ 4 ∷ 0 ∷ 0 ∷ 0 ∷ 0 ∷ 0 ∷ 0 ∷
    0 ∷ 16 ∷ 0 ∷ 0 ∷ 0 ∷ 0 ∷ 0 ∷ 128 ∷ 2 ∷ 8 ∷
    -- page 1: length of the body
    94 ∷ 0 ∷ 0 ∷ 0 ∷
    -- kind 2
    2 ∷ 0 ∷
    -- 2 shapes
    2 ∷ 0 ∷
    -- 2 vertices
    2 ∷ 0 ∷
    -- 1 parts
    1 ∷ 0 ∷
    -- least x: -5
    0 ∷ 0 ∷ 0 ∷ 0 ∷ 0 ∷ 0 ∷ 20 ∷ 192 ∷
    -- least y: -5
    0 ∷ 0 ∷ 0 ∷ 0 ∷ 0 ∷ 0 ∷ 20 ∷ 192 ∷
    -- greatest x: -1
    0 ∷ 0 ∷ 0 ∷ 0 ∷ 0 ∷ 0 ∷ 240 ∷ 191 ∷
    -- greatest y: -1
    0 ∷ 0 ∷ 0 ∷ 0 ∷ 0 ∷ 0 ∷ 240 ∷ 191 ∷
    -- register 101
    101 ∷ 0 ∷ 0 ∷ 0 ∷
    -- register 103
    103 ∷ 0 ∷ 0 ∷ 0 ∷
    -- types 2, 0
    2 ∷ 0 ∷
    -- 1 part
    1 ∷ 0 ∷
    -- 0 parts
    0 ∷ 0 ∷
    -- a part of 2
    2 ∷ 0 ∷
    -- the x column takes 16 bytes
    16 ∷ 0 ∷ 0 ∷ 0 ∷
    -- the y column takes 16 bytes
    16 ∷ 0 ∷ 0 ∷ 0 ∷
    -- the x column
    55 ∷ 0 ∷ 0 ∷ 0 ∷ 0 ∷ 0 ∷ 0 ∷ 20 ∷ 192 ∷ 255 ∷ 255 ∷ 255 ∷ 255 ∷ 255 ∷ 255 ∷ 71 ∷
    -- the y column
    55 ∷ 0 ∷ 0 ∷ 0 ∷ 0 ∷ 0 ∷ 0 ∷ 20 ∷ 192 ∷ 255 ∷ 255 ∷ 255 ∷ 255 ∷ 255 ∷ 255 ∷ 71 ∷
    -- the end: length of the body
    8 ∷ 0 ∷ 0 ∷ 0 ∷
    -- kind 3
    3 ∷ 0 ∷
    -- 2 pages
    2 ∷ 0 ∷ 0 ∷ 0 ∷
    -- 4 shapes
    4 ∷ 0 ∷ 0 ∷ 0 ∷
    []

-- ---- searching it

-- the pattern of 0
abbrev pub zeroed : ℕ
zeroed = 0

-- of -0
abbrev pub minus_zero : ℕ
minus_zero = 9223372036854775808

-- of 5
abbrev pub five : ℕ
five = 4617315517961601024

-- of 10
abbrev pub ten : ℕ
ten = 4621819117588971520

-- of 10.5
abbrev pub ten_and_a_half : ℕ
ten_and_a_half = 4622100592565682176

-- the window (0,0,10,10)
abbrev pub window : List ℕ
window = zeroed ∷ zeroed ∷ ten ∷ ten ∷ []

-- the spot (10.5,5)
abbrev pub beside : List ℕ
beside = ten_and_a_half ∷ five ∷ []

-- what the search lists for the query block of these patterns, with room for 4,096 places: none for everything, two for a spot, four for a window
abbrev pub found_by : List ℕ → Out (List ℕ)
found_by ps = on (ask_of (block_with ps)) (λ a. search_of a sample 4096)

-- "Window (0,0,10,10)" lists place 0, and so do "spot (10,10)" and "spot (-0,0)"; "spot (10.5,5) none; everything, four"
abbrev pub Found : Type 0
Found =
    (found_by window ≡ ok (0 ∷ []))
    × (found_by (ten ∷ ten ∷ []) ≡ ok (0 ∷ []))
    × (found_by (minus_zero ∷ zeroed ∷ []) ≡ ok (0 ∷ []))
    × (found_by beside ≡ ok [])
    × (found_by [] ≡ ok (0 ∷ 1 ∷ 2 ∷ 3 ∷ []))

-- ---- listing it

-- the sample, but for its last byte
abbrev pub cut : List ℕ
cut = take 259 sample

-- the row at place 0, and how many shapes there are in all; and of the sample that was cut, that it is refused behind its two pages
abbrev pub Listable : Type 0
Listable =
    (rows_in sample (0 ∷ []) ≡ ok (record { register = 101; kind = 3 } ∷ []))
    × (on (frame_of sample) (λ f. ok (shapes_of f.pages)) ≡ ok 4)
    × (on (ask_of (block_with window)) (λ a. search_of a cut 4096) ≡ refused (on_page 2 (because lengths)))

-- ---- the sample, worn: a byte of page 1 has become 64

-- the byte at a place
abbrev pub worn_at : ℕ → List ℕ
worn_at k = take k sample ++ (64 ∷ drop (suc k) sample)

-- that of the width of the x column, and of the y column: with 64 bits for its one step each lacks bits at its second value
abbrev pub Worn : Type 0
Worn =
    (on (ask_of (block_with [])) (λ a. search_of a (worn_at 214) 4096) ≡ refused (on_page 1 (on_column Axis.x (at_value 1 (because bits)))))
    × (on (ask_of (block_with [])) (λ a. search_of a (worn_at 230) 4096) ≡ refused (on_page 1 (on_column Axis.y (at_value 1 (because bits)))))
