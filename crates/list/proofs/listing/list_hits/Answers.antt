-- `list::listing::list_hits` says what the hits of the search list. Nothing is assumed.
use native.Mathlib.Omega.{arith}
use Rattle.answer.proofs.Outcomes.{handed-on}
use Rattle.list.proofs.Listings.{hits-refused, hits-fit, hits-listed}
use Rattle.list.proofs.listing.list_hits.Goals as goal

pub list_places-requires : goal.list_places-requires
list_places-requires c =
    let a = c.args in
    let rooms = c.requires.rooms in
    let found = c.search_good in
    let h = hits-fit a.a a.file.now a.places.now _ _ found.ensures rooms.for_places _ c.in_ok-n.was in
    let k = found.auto.out in
    record {
      n_in_bounds = omega (arith, h);
      n_in_bounds_2 = omega (arith, h, k, rooms.for_places, rooms.for_registers);
      n_in_bounds_3 = omega (arith, h, k, rooms.for_places, rooms.for_types);
    }

pub returns : goal.returns
returns c =
    let a = c.args in
    hits-listed a.a a.file.now a.places.now _ _ c.search_good.ensures c.requires.rooms.for_places _ c.in_ok-n.was c.list_places.ensures

pub returns-in_err-n : goal.returns-in_err-n
returns-in_err-n c =
    let a = c.args in
    rw (handed-on c.from_residual.ensures.1)
    (hits-refused a.a a.file.now a.places.now _ _ c.search_good.ensures c.requires.rooms.for_places _ c.in_err-n.was)
