-- `place::rows::put_rows` puts row after row: the first i stand in the rooms, and from the cursor of the last page one may seek on. Assumes nothing.
use Rattle.place.proofs.Onwards.{seated-page}
use Rattle.place.proofs.Places.{listing_none, listing-never, listing-more, listing-done}
use Rattle.place.proofs.rows.put_rows.Goals as goal

pub loop-i-init : goal.loop-i-init
loop-i-init c =
    let r = c.requires in
    listing_none _ _ _ _ _ r.places_value.0 r.onward.0 r.places_value.1 r.places_in_bounds.0 r.places_in_bounds.1

pub row_at-r-requires : goal.row_at-r-requires
row_at-r-requires c =
    let d = c.seek.ensures.seat _ c.in_ok-t.was in
    let k = seated-page _ _ _ d in
    (k.stands.fits, (c.in_ok-t.t.at.edition, k.headed), d.within)

pub loop-i-preserved : goal.loop-i-preserved
loop-i-preserved c = listing-more _ _ _ _ _ _ _ _ c.loop-i.invariant c.loop-i-test.true _ c.seek.ensures _ _ c.in_ok-t.was c.row_at-r.ensures

pub returns-in_err-t : goal.returns-in_err-t
returns-in_err-t c = listing-never _ _ _ _ _ _ _ _ c.loop-i.invariant c.loop-i-test.true _ c.seek.ensures _ c.in_err-t.was

pub returns : goal.returns
returns c =
    let both = listing-done _ _ _ _ _ _ _ _ c.loop-i.invariant c.loop-i-test.false in
    record { registers = both.0; types = both.1 }
