-- `query::query_block::nothing_asked` says the refusal of a query. Assumes nothing.
use mathlib.Core.Path.{ap}
use Rattle.answer.specs.Outcome.{refused}
use Rattle.query.proofs.query_block.nothing_asked.Goals as goal

pub returns : goal.returns
returns c = ap refused c.because.ensures
