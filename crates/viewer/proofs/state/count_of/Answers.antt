-- `count_of` is `capped_count`, a law for each return. Assumes nothing.
use Rattle.viewer.proofs.Stored.{count-above, count-within}
use Rattle.viewer.proofs.state.count_of.Goals as goal

pub returns-then-word-gt4294967295 : goal.returns-then-word-gt4294967295
returns-then-word-gt4294967295 c = count-above _ c.if-word-gt4294967295.true

pub returns : goal.returns
returns c = count-within _ c.if-word-gt4294967295.false
