-- `list::listing::list_input` judges the form of the query block, and lists what stands behind it. Nothing is assumed.
use Rattle.answer.proofs.Outcomes.{handed-on}
use Rattle.list.proofs.Listings.{input-refused, input-block, input-listed}
use Rattle.list.proofs.listing.list_input.Goals as goal

pub list_behind-requires : goal.list_behind-requires
list_behind-requires c = record { input_value = input-block c.args.input.now _ c.block_len.ensures _ c.in_ok-len.was; rooms = c.requires }

pub returns : goal.returns
returns c = input-listed c.args.input.now _ c.block_len.ensures _ c.in_ok-len.was c.list_behind.ensures

pub returns-in_err-len : goal.returns-in_err-len
returns-in_err-len c =
    rw (handed-on c.from_residual.ensures.1) (input-refused c.args.input.now _ c.block_len.ensures _ c.in_err-len.was)
