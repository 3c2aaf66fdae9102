-- `flag_of` is `flag_of`, a law for each return. Assumes nothing.
use Rattle.viewer.proofs.Stored.{flag-closed, flag-open}
use Rattle.viewer.proofs.state.flag_of.Goals as goal

pub returns-then-closed : goal.returns-then-closed
returns-then-closed c = flag-closed _ c.if-closed.true

pub returns : goal.returns
returns c = flag-open _ c.if-closed.false
