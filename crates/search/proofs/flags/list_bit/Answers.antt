-- `search::flags::list_bit` puts a place or leaves the list. Assumes nothing.
use Rattle.search.proofs.Listing.{bit-room, bit-listed, bit-left}
use Rattle.search.proofs.flags.list_bit.Goals as goal

pub bounds-out-at : goal.bounds-out-at
bounds-out-at c = bit-room _ _ _ _ c.if-bit-eq1.true c.requires.1

pub returns-then-bit-eq1 : goal.returns-then-bit-eq1
returns-then-bit-eq1 c = bit-listed _ _ _ _ c.if-bit-eq1.true

pub returns : goal.returns
returns c = bit-left _ _ _ _ c.if-bit-eq1.false
