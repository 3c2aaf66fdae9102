-- `fetch::fetch::fetch` seeks the place, and then opens its page. Assumes nothing.
use Rattle.answer.proofs.Outcomes.{handed-on}
use Rattle.fetch.proofs.Filling.{fetches-refused}
use Rattle.place.proofs.Onwards.{sought-refused, sought-seat}
use Rattle.fetch.proofs.Opens.{fetch-refused, fetch-seat}
use Rattle.fetch.proofs.fetch.fetch.Goals as goal

pub returns-in_err-t : goal.returns-in_err-t
returns-in_err-t c =
    rw (handed-on c.from_residual.ensures.1) (fetches-refused _ (fetch-refused _ _ _ _ (sought-refused _ _ _ c.seat.ensures _ c.in_err-t.was)))

pub opened-requires : goal.opened-requires
opened-requires c =
    let d = c.seat.ensures.seat _ c.in_ok-t.was in
    record { within = d.onward.ahead.within; at_value = d.found; index_lt_g = d.within }

pub returns : goal.returns
returns c = rw (fetch-seat _ _ _ _ (sought-seat _ _ _ c.seat.ensures _ c.in_ok-t.was)) c.opened.ensures
