-- The refusal numbers of document 01, each with its words: "given exactly when". Names for numbers, and nothing else.
use Rattle.std.specs.Prelude.{ℕ}

-- query not finite, reversed, or its block malformed
abbrev pub query : ℕ
query = 1

-- the lent room is smaller than the answer needs
abbrev pub room : ℕ
room = 2

-- a column call, or a single shape from outside, over 2,048 values (in a page this is 6); a 1,025th page; a writer's state
-- with over 1,024 pages or 262,144 shapes; a program's file over 40,960 bytes
abbrev pub many : ℕ
many = 3

-- a length in the file doesn't fit, or bytes follow the end
abbrev pub lengths : ℕ
lengths = 4

-- wrong kind or edition
abbrev pub kind : ℕ
kind = 5

-- g, v, p out of limits, slices of unequal length, or end counts wrong
abbrev pub counts : ℕ
counts = 6

-- page box not finite or reversed, or not all zero bytes where v = 0
abbrev pub box_form : ℕ
box_form = 7

-- width over 64
abbrev pub width : ℕ
width = 8

-- column has too few bits, or a whole byte too many
abbrev pub bits : ℕ
bits = 9

-- fill bits not zero
abbrev pub fill : ℕ
fill = 10

-- type over 6, or part counts and lengths against the table or sums
abbrev pub parts : ℕ
parts = 11

-- coordinate not finite
abbrev pub finite : ℕ
finite = 12

-- ring not closed
abbrev pub ring : ℕ
ring = 13

-- MultiPolygon off grid
abbrev pub grid : ℕ
grid = 14

-- turn zero, or first ring not clockwise
abbrev pub turn : ℕ
turn = 15

-- page box differs in value from its vertices' box
abbrev pub box : ℕ
box = 16

-- no shape at that place
abbrev pub place : ℕ
place = 17

-- writer already closed
abbrev pub closed : ℕ
closed = 18
