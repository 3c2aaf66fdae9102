-- `refused` says the refusal of its number. Assumes nothing.
use mathlib.Core.Path.{ap}
use Rattle.answer.specs.Outcome.{refused}
use Rattle.frame.proofs.walk.refused.Goals as goal

pub returns : goal.returns
returns c = ap refused c.because.ensures
