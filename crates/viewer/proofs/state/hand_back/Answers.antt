-- `hand_back` tells a step's verdict, and puts the state where the step was taken. Assumes nothing.
use Rattle.viewer.proofs.Keeping.{back-refused, back-taken}
use Rattle.viewer.proofs.state.hand_back.Goals as goal

pub returns-in-Err : goal.returns-in-Err
returns-in-Err c = back-refused _ _ _ _ c.in-Err.is c.refusal_word.ensures

pub returns-in-Ok : goal.returns-in-Ok
returns-in-Ok c = back-taken _ _ _ c.in-Ok.is c.put_state.ensures
