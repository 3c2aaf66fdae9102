-- `list::listing::list_behind` judges the size, reads the query, and lists what it asks of the file behind it. Nothing is assumed.
use mathlib.Core.Path.{sym}
use native.Mathlib.Omega.{arith}
use lib.Seq.{length-take-le}
use Rattle.answer.proofs.Outcomes.{handed-on}
use Rattle.query.proofs.Good.{len-fits, read-sound}
use Rattle.list.proofs.Listings.{behind-many, behind-refused, behind-asked}
use Rattle.list.proofs.listing.list_behind.Goals as goal

pub overflow_sub-input : goal.overflow_sub-input
overflow_sub-input c = len-fits c.args.input.now c.args.len c.requires.input_value

pub returns-then-input-len-gt-MOST_INPUT : goal.returns-then-input-len-gt-MOST_INPUT
returns-then-input-len-gt-MOST_INPUT c = rw c.because.ensures (behind-many c.args.input.now c.args.len (omega arith))

pub slice_bounds-ask_of-end : goal.slice_bounds-ask_of-end
slice_bounds-ask_of-end c = sym (length-take-le c.args.len c.args.input.now (len-fits c.args.input.now c.args.len c.requires.input_value))

pub slice_bounds-list_hits-count : goal.slice_bounds-list_hits-count
slice_bounds-list_hits-count c = len-fits c.args.input.now c.args.len c.requires.input_value

pub slice_bounds-list_hits-start : goal.slice_bounds-list_hits-start
slice_bounds-list_hits-start c = len-fits c.args.input.now c.args.len c.requires.input_value

pub list_hits-requires : goal.list_hits-requires
list_hits-requires c = record { query_value = read-sound _ _ c.in_ok-a.a c.ask_of.ensures c.in_ok-a.was; rooms = c.requires.rooms }

pub returns : goal.returns
returns c =
    behind-asked c.args.input.now c.args.len (omega (arith, c.if-input-len-gt-MOST_INPUT.false)) _ c.ask_of.ensures _ c.in_ok-a.was c.list_hits.ensures

pub returns-in_err-a : goal.returns-in_err-a
returns-in_err-a c =
    rw (handed-on c.from_residual.ensures.1)
    (behind-refused c.args.input.now c.args.len (omega (arith, c.if-input-len-gt-MOST_INPUT.false)) _ c.ask_of.ensures _ c.in_err-a.was)
