-- `place::rows::rows` judges the frame, the places and the rooms, in this order, before it puts anything: a law for each return. Assumes nothing.
use mathlib.Core.Path.{◌≡◌, sym, ◌∙◌}
use mathlib.Core.List.{List}
use Rattle.answer.specs.Outcome.{ok}
use Rattle.answer.proofs.Outcomes.{handed-on}
use Rattle.frame.proofs.Walks.{frame-refusal-said}
use Rattle.frame.proofs.Ahead.{begun-said}
use Rattle.place.specs.declared.row.Row.{Row}
use Rattle.place.specs.Rows.{rows_in}
use Rattle.place.proofs.Onwards.{onward-first}
use Rattle.place.proofs.Places.{rows_frame, rows-refused, no_rows, all-rows, room-registers, room-types, room-both, both-refused}
use Rattle.place.proofs.rows.rows.Goals.{Else-not-all_there}
use Rattle.place.proofs.rows.rows.Goals as goal

pub returns-in_err-totals : goal.returns-in_err-totals
returns-in_err-totals c =
    let both = both-refused _ (rows-refused _ _ _ _ _ (rows_frame _ _ _ (frame-refusal-said _ _ c.frame.ensures _ c.in_err-totals.was))) in
    rw (handed-on c.from_residual.ensures.1) (record { registers = both.0; types = both.1 })

pub returns-then-not-all_there : goal.returns-then-not-all_there
returns-then-not-all_there c =
    let none = no_rows _ _ _ c.frame.ensures _ c.in_ok-totals.was (sym c.all_there.ensures ∙ c.if-not-all_there.true) in
    let both = both-refused _ (rows-refused _ _ _ _ _ none) in
    rw c.because.ensures (record { registers = both.0; types = both.1 })

-- all places have a shape, and so a row
listed : (c : Else-not-all_there) → (rs : List Row) × (rows_in c.args.s.now c.args.places.now ≡ ok rs)
listed c = all-rows _ _ _ c.frame.ensures _ c.in_ok-totals.was (sym c.all_there.ensures ∙ c.if-not-all_there.false)

pub returns-then-registers-places : goal.returns-then-registers-places
returns-then-registers-places c =
    let r = listed (goal.at.returns-then-registers-places c).Else-not-all_there in
    let both = both-refused _ (room-registers _ _ _ _ r.0 r.1 c.if-registers-places.true) in
    rw c.because-then-registers-places.ensures (record { registers = both.0; types = both.1 })

pub returns-then-types-places : goal.returns-then-types-places
returns-then-types-places c =
    let r = listed (goal.at.returns-then-types-places c).Else-not-all_there in
    let both = both-refused _ (room-types _ _ _ _ r.0 r.1 c.if-registers-places.false c.if-types-places.true) in
    rw c.because-then-types-places.ensures (record { registers = both.0; types = both.1 })

pub put_rows-requires : goal.put_rows-requires
put_rows-requires c =
    let b = begun-said _ _ c.frame.ensures _ c.in_ok-totals.was in
    record {
      onward = (onward-first _ _ b, b.no_shape);
      places_value = listed (goal.at.put_rows-requires c).Else-not-all_there;
      places_in_bounds = (c.if-registers-places.false, c.if-types-places.false);
    }

pub returns : goal.returns
returns c =
    let r = listed (goal.at.returns c).Else-not-all_there in
    let p = c.put_rows.ensures in
    let e = room-both _ _ _ _ r.0 r.1 c.if-registers-places.false c.if-types-places.false in
    record { registers = rw e p.registers; types = rw e p.types }
