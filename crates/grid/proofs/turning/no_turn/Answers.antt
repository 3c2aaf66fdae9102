-- `grid::turning::no_turn` meets its contract: only zero has no bit set. Assumes nothing.
use Rattle.grid.proofs.Turns.{zero_bits}
use Rattle.grid.proofs.turning.no_turn.Goals as goal

pub returns : goal.returns
returns c = zero_bits c.args.t c.ranges.t
