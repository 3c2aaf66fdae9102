-- Worked examples of rules 13 to 15, by computation: the ring of the sample file's first shape as a MultiPolygon, and coordinates at the edge
-- of the grid. Assumes nothing.
use mathlib.Core.Path.{◌≡◌, refl}
use mathlib.Core.Bool.{true}
use mathlib.Core.List.{List, [], ◌∷◌}
use Prim.Native.Nat.{ℕ, ◌*◌, ◌+◌, ◌^◌}
use lib.IntN.{pos, neg_ℤ}
use lib.Ieee.{of_bits, of_fields}
use Rattle.answer.specs.Table as table
use Rattle.answer.specs.Refusal.{because}
use Rattle.answer.specs.Outcome.{refused, ok, need}
use Rattle.answer.specs.Rule.{rule}
use Rattle.answer.specs.All.{all_of}
use Rattle.types.specs.Types.{type_row}
use Rattle.types.specs.Parts.{total}
use Rattle.grid.specs.Grid.{on_grid, whole_of}
use Rattle.grid.specs.Turn.{turn_of, clockwise, zero_turn}
use Rattle.shape.specs.Outline.{Outline, outline_with, part_with, outlines_of, parts_of}
use Rattle.shape.specs.Rules.{ends_meet, closed_ring, rings_closed, ring_rule, on_grid_shape, grid_rule, ring_turn, turn_not_zero, first_clockwise, rings_turned, turns_hold, turn_rule}

-- ---- patterns: the exponent's field at 2 ^ 52, then the digits

abbrev ten : ℕ
ten = 1026 * 2 ^ 52 + 2 ^ 50

-- 2 ^ 24, and 2 ^ 24 + 1
abbrev most : ℕ
most = 1047 * 2 ^ 52

abbrev past : ℕ
past = 1047 * 2 ^ 52 + 2 ^ 28

abbrev half : ℕ
half = 1022 * 2 ^ 52

-- ---- the ring (0,0) (0,10) (10,10) (10,0) (0,0), and the other way round

abbrev across : List ℕ
across = 0 ∷ 0 ∷ ten ∷ ten ∷ 0 ∷ []

abbrev along : List ℕ
along = 0 ∷ ten ∷ ten ∷ 0 ∷ 0 ∷ []

pub ring-turn : ring_turn (part_with across along) ≡ neg_ℤ (pos 200)
unfolding ring_turn turn_of whole_of of_bits of_fields
ring-turn = refl

pub ring-clockwise : clockwise (ring_turn (part_with across along)) ≡ true
unfolding ring_turn turn_of whole_of of_bits of_fields clockwise
ring-clockwise = refl

pub ring-closed : closed_ring (part_with across along) ≡ true
unfolding closed_ring ends_meet
ring-closed = refl

-- the shapes of a page of one MultiPolygon of one ring
abbrev page : List ℕ → List ℕ → List Outline
page xs ys = outlines_of (6 ∷ []) (1 ∷ []) (5 ∷ []) xs ys

pub page-outline : page across along ≡ outline_with 6 (5 ∷ []) across along ∷ []
unfolding outlines_of total
page-outline = refl

pub page-closed : ring_rule (page across along) ≡ ok tt
unfolding outlines_of total parts_of ring_rule rings_closed type_row all_of closed_ring ends_meet rule need
page-closed = refl

pub page-on-grid : grid_rule (page across along) ≡ ok tt
unfolding outlines_of total grid_rule on_grid_shape all_of on_grid of_bits of_fields rule need
page-on-grid = refl

pub page-turns : turn_rule (page across along) ≡ ok tt
unfolding outlines_of total parts_of turn_rule turns_hold rings_turned first_clockwise turn_not_zero ring_turn all_of turn_of whole_of of_bits of_fields clockwise zero_turn rule need
page-turns = refl

pub page-reversed : turn_rule (page along across) ≡ refused (because table.turn)
unfolding outlines_of total parts_of turn_rule turns_hold rings_turned first_clockwise turn_not_zero ring_turn all_of turn_of whole_of of_bits of_fields clockwise zero_turn rule need
page-reversed = refl

-- ---- the edge of the grid

abbrev edge : ℕ → List ℕ
edge x = 0 ∷ 0 ∷ x ∷ x ∷ 0 ∷ []

pub grid-most : grid_rule (page (edge most) along) ≡ ok tt
unfolding outlines_of total grid_rule on_grid_shape all_of on_grid of_bits of_fields rule need
grid-most = refl

pub grid-past : grid_rule (page (edge past) along) ≡ refused (because table.grid)
unfolding outlines_of total grid_rule on_grid_shape all_of on_grid of_bits of_fields rule need
grid-past = refl

pub grid-half : grid_rule (page along (edge half)) ≡ refused (because table.grid)
unfolding outlines_of total grid_rule on_grid_shape all_of on_grid of_bits of_fields rule need
grid-half = refl
