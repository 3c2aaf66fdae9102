-- `list::listing::list_places` says what the rows and the frame say, one law for each return. Nothing is assumed.
use mathlib.Core.Path.{sym}
use Rattle.answer.proofs.Outcomes.{handed-on}
use lib.Seq.{length-take-le}
use Rattle.list.proofs.Listings.{places-refused, places-frame, places-listed}
use Rattle.list.proofs.listing.list_places.Goals as goal

pub slice_bounds-rows-end : goal.slice_bounds-rows-end
slice_bounds-rows-end c = sym (length-take-le c.args.n c.args.places.now c.requires.n_in_bounds)

pub returns : goal.returns
returns c =
    let a = c.args in
    let q = c.requires in
    let rows = c.rows.ensures in
    places-listed a.file.now a.places.now a.n a.registers.now a.types.now _ _ q.n_in_bounds q.n_in_bounds_2 q.n_in_bounds_3 _ rows.registers rows.types _ c.in_ok-rows.was _ c.frame.ensures _ c.in_ok-totals.was

pub returns-in_err-totals : goal.returns-in_err-totals
returns-in_err-totals c =
    let a = c.args in
    let q = c.requires in
    let rows = c.rows.ensures in
    rw (handed-on c.from_residual-in_err-totals.ensures.1)
    (places-frame a.file.now a.places.now a.n a.registers.now a.types.now _ _ q.n_in_bounds q.n_in_bounds_2 q.n_in_bounds_3 _ rows.registers rows.types _ c.in_ok-rows.was _ c.frame.ensures _ c.in_err-totals.was)

pub returns-in_err-rows : goal.returns-in_err-rows
returns-in_err-rows c =
    let a = c.args in
    let q = c.requires in
    let rows = c.rows.ensures in
    rw (handed-on c.from_residual.ensures.1)
    (places-refused a.file.now a.places.now a.n a.registers.now a.types.now _ _ q.n_in_bounds q.n_in_bounds_2 q.n_in_bounds_3 _ rows.registers rows.types _ c.in_err-rows.was)
