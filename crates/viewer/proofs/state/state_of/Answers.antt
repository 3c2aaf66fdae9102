-- `state_of` is `state_of`, word by word. Assumes nothing.
use Rattle.viewer.proofs.Stored.{state-is}
use Rattle.viewer.proofs.state.state_of.Goals as goal

pub returns : goal.returns
returns c = state-is c.args.words.now _ _ c.count_of.ensures c.count_of-2.ensures
