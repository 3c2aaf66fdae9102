-- `Writer::open` gives the outcome of opening: 2, or the first block and a state with no pages. Assumes nothing.
use mathlib.Core.Bool.{false}
use Rattle.writer.specs.State.{state_with, first_block}
use Rattle.writer.proofs.Stepping.{steps-refused, steps-ok}
use Rattle.writer.proofs.Ways.{added, open-room, open-ok}
use Rattle.writer.proofs.Writer.open.Goals as goal

pub returns-then-d-lt-FIRST_BLOCK : goal.returns-then-d-lt-FIRST_BLOCK
returns-then-d-lt-FIRST_BLOCK c = rw c.refused.ensures (steps-refused _ (open-room _ c.if-d-lt-FIRST_BLOCK.true))

pub returns : goal.returns
returns c = steps-ok (added (state_with 8 0 0 false) 0 first_block) _ (open-ok _ c.if-d-lt-FIRST_BLOCK.false) c.put_first.ensures
