-- Nothing is vacuous: by computation, the full check's definition accepts the sample file of document 01, and the search's definition finds in it what
-- the document says. Assumes nothing.
use mathlib.Core.Path.{◌≡◌, refl}
use Rattle.answer.specs.Outcome.{ok, need, on, marked}
use Rattle.answer.specs.Rule.{rule}
use Rattle.le.specs.Number.{number, number_at, numbers_each, bytes_of, run_of}
use Rattle.block.specs.Block.{present_at, block_at, block_head}
use Rattle.entry.specs.Step.{unzigzag}
use Rattle.entry.specs.Entry.{size_at, value_at, after, values}
use Rattle.column.specs.Read.{said_by, end_of, entries_within, held_of, end_rules, some_of, decode_of}
use Rattle.extent.specs.Rank.{rank, finite, at_most, below, same_value}
use Rattle.extent.specs.Boxes.{bounds_at, four_finite, in_order, good_form, same_box, meets, lesser, greater, least_of, greatest_of, box_of}
use lib.Ieee.{of_bits, to_bits, of_fields}
use Rattle.answer.specs.All.{all_of}
use Rattle.types.specs.Types.{type_row}
use Rattle.types.specs.Parts.{total, fits, lengths_fit, row_agrees, shape_agrees, parts_agree, parts_hold, parts_rule}
use Rattle.grid.specs.Grid.{on_grid, whole_of}
use Rattle.grid.specs.Turn.{turn_of, clockwise, zero_turn}
use Rattle.shape.specs.Outline.{outlines_of, parts_of, registered}
use Rattle.shape.specs.Rules.{finite_rule, ends_meet, closed_ring, rings_closed, ring_rule, on_grid_shape, grid_rule, ring_turn, turn_not_zero, first_clockwise, rings_turned, turns_hold, turn_rule, box_holds, box_rule, outline_rules}
use Rattle.frame.specs.Layout.{each, layout_of}
use Rattle.frame.specs.Head as page
use Rattle.frame.specs.Head.{counts_ok, all_zero, box_ok, sized_head}
use Rattle.frame.specs.Next.{first_cursor, as_first, first_of, as_page, as_end, by_kind, next_of}
use Rattle.frame.specs.Frame as frame
use Rattle.frame.specs.Frame.{walk, frame_of}
use Rattle.page.specs.Contents.{registers_of, types_of, counts_of, lens_of, x_part, y_part, vertices_of, contents_of}
use Rattle.file.specs.File.{pages_of}
use Rattle.file.specs.Check.{check_of}
use Rattle.query.specs.Ask.{good_query, reach_of, stored, in_window, touches, hit, opens}
use Rattle.query.specs.Block.{instead, body_len, len_of, block_len, spot_asked, window_asked, asked, ask_of}
use Rattle.search.specs.Search.{places_of, hits_from, page_hits, met_of, met_in, hits_of, search_of}
use Rattle.place.specs.Seek.{seek_in}
use Rattle.place.specs.Row.{row_of}
use Rattle.place.specs.Rows.{rows_at, rows_in}
use Rattle.promises.specs.Sample.{sample, Found, Listable, Worn}

-- two pages, four shapes
pub sample-sound : check_of sample ≡ ok (record { pages = 2; shapes = 4; first = first_cursor 1 })
unfolding need on marked rule number number_at numbers_each present_at block_at unzigzag size_at value_at after values said_by end_of end_rules some_of decode_of rank finite at_most below same_value four_finite in_order good_form same_box lesser greater least_of greatest_of box_of all_of type_row total fits lengths_fit row_agrees shape_agrees parts_agree parts_hold parts_rule of_bits to_bits of_fields on_grid whole_of turn_of clockwise zero_turn outlines_of parts_of registered finite_rule ends_meet closed_ring rings_closed ring_rule on_grid_shape grid_rule ring_turn turn_not_zero first_clockwise rings_turned turns_hold turn_rule box_holds box_rule each layout_of counts_ok bounds_at all_zero box_ok sized_head page.head_of as_first first_of as_page as_end by_kind next_of walk frame_of frame.shapes_of registers_of types_of counts_of lens_of x_part y_part vertices_of outline_rules contents_of pages_of check_of
sample-sound = refl

-- what the document says is found in it
pub sample-found : Found
unfolding need on marked rule number number_at numbers_each present_at block_at unzigzag size_at value_at after values said_by end_of end_rules some_of decode_of rank finite at_most below same_value four_finite in_order good_form same_box lesser greater least_of greatest_of box_of all_of type_row total fits lengths_fit row_agrees shape_agrees parts_agree parts_hold parts_rule of_bits to_bits of_fields on_grid whole_of turn_of clockwise zero_turn outlines_of parts_of registered finite_rule ends_meet closed_ring rings_closed ring_rule on_grid_shape grid_rule ring_turn turn_not_zero first_clockwise rings_turned turns_hold turn_rule box_holds box_rule each layout_of counts_ok bounds_at all_zero box_ok sized_head page.head_of as_first first_of as_page as_end by_kind next_of walk frame_of frame.shapes_of registers_of types_of counts_of lens_of x_part y_part vertices_of outline_rules contents_of run_of bytes_of block_head meets instead body_len len_of block_len spot_asked window_asked asked ask_of good_query reach_of stored in_window touches hit opens places_of hits_from page_hits met_of met_in hits_of search_of
sample-found = (refl, refl, refl, refl, refl)

-- and what the listing program goes by
pub sample-listable : Listable
unfolding need on marked rule number number_at numbers_each present_at block_at unzigzag size_at value_at after values said_by end_of end_rules some_of decode_of rank finite at_most below same_value four_finite in_order good_form same_box lesser greater least_of greatest_of box_of all_of type_row total fits lengths_fit row_agrees shape_agrees parts_agree parts_hold parts_rule of_bits to_bits of_fields on_grid whole_of turn_of clockwise zero_turn outlines_of parts_of registered finite_rule ends_meet closed_ring rings_closed ring_rule on_grid_shape grid_rule ring_turn turn_not_zero first_clockwise rings_turned turns_hold turn_rule box_holds box_rule each layout_of counts_ok bounds_at all_zero box_ok sized_head page.head_of as_first first_of as_page as_end by_kind next_of walk frame_of frame.shapes_of registers_of types_of counts_of lens_of x_part y_part vertices_of outline_rules contents_of run_of bytes_of block_head meets instead body_len len_of block_len spot_asked window_asked asked ask_of good_query reach_of stored in_window touches hit opens places_of hits_from page_hits met_of met_in hits_of search_of seek_in row_of rows_at rows_in
sample-listable = (refl, refl, refl)

-- and where the search says that a worn one is
pub sample-worn : Worn
unfolding need on marked rule number number_at numbers_each present_at block_at unzigzag size_at value_at after values said_by end_of entries_within held_of end_rules some_of decode_of rank finite at_most below same_value four_finite in_order good_form same_box lesser greater least_of greatest_of box_of all_of type_row total fits lengths_fit row_agrees shape_agrees parts_agree parts_hold parts_rule of_bits to_bits of_fields on_grid whole_of turn_of clockwise zero_turn outlines_of parts_of registered finite_rule ends_meet closed_ring rings_closed ring_rule on_grid_shape grid_rule ring_turn turn_not_zero first_clockwise rings_turned turns_hold turn_rule box_holds box_rule each layout_of counts_ok bounds_at all_zero box_ok sized_head page.head_of as_first first_of as_page as_end by_kind next_of walk frame_of frame.shapes_of registers_of types_of counts_of lens_of x_part y_part vertices_of outline_rules contents_of run_of bytes_of block_head meets instead body_len len_of block_len spot_asked window_asked asked ask_of good_query reach_of stored in_window touches hit opens places_of hits_from page_hits met_of met_in hits_of search_of
sample-worn = (refl, refl)
