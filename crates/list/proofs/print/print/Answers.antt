-- `list::print::print` prints what the input lists: its rows, or the refused line. Nothing is assumed.
use mathlib.Core.Path.{refl, sym, ◌∙◌}
use lib.Seq.{length-take-le}
use Rattle.list.proofs.Listings.{rows-said, refused-said}
use Rattle.list.proofs.print.print.Goals as goal

pub slice_bounds-places-end : goal.slice_bounds-places-end
slice_bounds-places-end g c = c.list_input.ensures.places_fit _ c.in-Ok.is

pub slice_bounds-say_rows-end : goal.slice_bounds-say_rows-end
slice_bounds-say_rows-end g c = sym (length-take-le _ _ (c.list_input.ensures.places_fit _ c.in-Ok.is))

pub slice_bounds-registers-end : goal.slice_bounds-registers-end
slice_bounds-registers-end g c = c.list_input.ensures.registers_fit _ c.in-Ok.is

pub slice_bounds-say_rows-end-in-Ok : goal.slice_bounds-say_rows-end-in-Ok
slice_bounds-say_rows-end-in-Ok g c = sym (length-take-le _ _ (c.list_input.ensures.registers_fit _ c.in-Ok.is))

pub slice_bounds-types-end : goal.slice_bounds-types-end
slice_bounds-types-end g c = c.list_input.ensures.types_fit _ c.in-Ok.is

pub slice_bounds-say_rows-end-in-Ok-2 : goal.slice_bounds-say_rows-end-in-Ok-2
slice_bounds-say_rows-end-in-Ok-2 g c = sym (length-take-le _ _ (c.list_input.ensures.types_fit _ c.in-Ok.is))

pub say_rows-requires : goal.say_rows-requires
say_rows-requires g c =
    let said = c.list_input in
    let hits = c.in-Ok.r.hits in
    let places = length-take-le hits said.new.places (said.ensures.places_fit _ c.in-Ok.is) in
    let registers = length-take-le hits said.new.registers (said.ensures.registers_fit _ c.in-Ok.is) in
    let types = length-take-le hits said.new.types (said.ensures.types_fit _ c.in-Ok.is) in
    record { k_value = refl; input_value = rows-said said.ensures _ c.in-Ok.is; registers_len = registers ∙ sym places; types_len = types ∙ sym places }

pub say_refused-requires : goal.say_refused-requires
say_refused-requires g c = record { k_value = refl; input_value = refused-said c.list_input.ensures _ c.in-Err.is }
