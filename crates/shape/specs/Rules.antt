-- Rules 12 to 16 of a page's contents, each over all of its shapes. Assumes nothing.
use Rattle.std.specs.Prelude.{ℕ, ◌-◌, Bool, true, ◌&&◌, ◌||◌, not, List, [], ◌∷◌, ltb, eqb, ℤ, length, get_or}
use Rattle.answer.specs.Table as table
use Rattle.answer.specs.Outcome.{Out, on}
use Rattle.answer.specs.Rule.{rule}
use Rattle.answer.specs.All.{all_of}
use Rattle.types.specs.Types.{multi_polygon, type_row}
use Rattle.extent.specs.Rank.{all_finite}
use Rattle.extent.specs.declared.bounds.Bounds.{Bounds}
use Rattle.extent.specs.Boxes.{box_of, same_box}
use Rattle.grid.specs.Grid.{all_on_grid}
use Rattle.grid.specs.Turn.{turn_of, clockwise, zero_turn}
use Rattle.shape.specs.declared.lists.Lists.{Lists}
use Rattle.shape.specs.Outline.{Outline, Part, outlines_in, parts_of}

-- the parts of a shape
abbrev pub own_parts : Outline → List Part
own_parts o = parts_of o.lens o.xs o.ys

-- ---- 12: all coordinates are finite

-- 12, by the x and the y of the page
unfoldable pub finite_rule : List ℕ → List ℕ → Out (Unit {0})
finite_rule xs ys = rule (all_finite xs && all_finite ys) table.finite

-- ---- 13: rings are closed

-- the first and the last of a list are the same
unfoldable pub ends_meet : List ℕ → Bool
ends_meet l = eqb (get_or l 0 0) (get_or l (length l - 1) 0)

-- closed: first and last vertex have the same bit patterns
unfoldable pub closed_ring : Part → Bool
closed_ring p = ends_meet p.xs && ends_meet p.ys

-- if the type's parts are rings, all of them are closed
unfoldable pub rings_closed : Outline → Bool
rings_closed o = not (type_row o.kind).rings || all_of closed_ring (own_parts o)

-- 13, over the shapes of the page
unfoldable pub ring_rule : List Outline → Out (Unit {0})
ring_rule os = rule (all_of rings_closed os) table.ring

-- ---- MultiPolygon only

-- whether a shape is one
abbrev pub is_multi_polygon : Outline → Bool
is_multi_polygon o = eqb o.kind multi_polygon

-- ---- 14: every coordinate is on grid

-- if the shape is a MultiPolygon, each x and each y is on grid
unfoldable pub on_grid_shape : Outline → Bool
on_grid_shape o = not (is_multi_polygon o) || (all_on_grid o.xs && all_on_grid o.ys)

-- 14, over the shapes of the page
unfoldable pub grid_rule : List Outline → Out (Unit {0})
grid_rule os = rule (all_of on_grid_shape os) table.grid

-- ---- 15: no ring's turn is zero, and the first ring is clockwise

-- a ring's turn
unfoldable pub ring_turn : Part → ℤ
ring_turn p = turn_of p.xs p.ys

-- a ring's turn is not zero
unfoldable pub turn_not_zero : Part → Bool
turn_not_zero p = not (zero_turn (ring_turn p))

-- the first ring is clockwise
unfoldable pub first_clockwise : List Part → Bool
first_clockwise [] = true
first_clockwise (p ∷ ps) = clockwise (ring_turn p)

-- the first ring of a shape is clockwise, and no ring's turn is zero
unfoldable pub rings_turned : List Part → Bool
rings_turned ps = first_clockwise ps && all_of turn_not_zero ps

-- if the shape is a MultiPolygon, its rings turn so
unfoldable pub turns_hold : Outline → Bool
turns_hold o = not (is_multi_polygon o) || rings_turned (own_parts o)

-- 15, over the shapes of the page
unfoldable pub turn_rule : List Outline → Out (Unit {0})
turn_rule os = rule (all_of turns_hold os) table.turn

-- ---- 16: the page's box is in value that of its vertices, if it has any

-- the box is in value that of the vertices; with no vertex there is nothing to compare
unfoldable pub box_holds : Bounds → List ℕ → List ℕ → Bool
box_holds p xs ys = not (ltb 0 (length xs)) || same_box p (box_of xs ys)

-- 16, by the page's box and its vertices
unfoldable pub box_rule : Bounds → List ℕ → List ℕ → Out (Unit {0})
box_rule p xs ys = rule (box_holds p xs ys) table.box

-- ---- in order

-- of outlines with the vertices xs and ys: 12, 13, 14, 15
unfoldable pub outline_rules : List Outline → List ℕ → List ℕ → Out (Unit {0})
outline_rules os xs ys =
    on (finite_rule xs ys) (λ _.
    on (ring_rule os) (λ _.
    on (grid_rule os) (λ _.
    turn_rule os)))

-- the same of a page's lists
abbrev pub outline_rules_in : Lists → Out (Unit {0})
outline_rules_in l = outline_rules (outlines_in l) l.xs.now l.ys.now

-- those behind 12, for inner steps; no service speaks of it
unfoldable pub ring_rules : List Outline → Out (Unit {0})
ring_rules os =
    on (ring_rule os) (λ _.
    on (grid_rule os) (λ _.
    turn_rule os))
