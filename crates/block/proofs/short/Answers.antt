-- `short` says the refusal of a length that doesn't fit. Assumes nothing.
use mathlib.Core.Path.{ap}
use Rattle.answer.specs.Outcome.{refused}
use Rattle.block.proofs.short.Goals as goal

pub returns : goal.returns
returns c = ap refused c.because.ensures
