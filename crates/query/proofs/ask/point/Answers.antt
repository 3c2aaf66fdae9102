-- `query::ask::point` makes the window of one point. Assumes nothing.
use mathlib.Core.Path.{refl}
use Rattle.query.proofs.ask.point.Goals as goal

pub returns : goal.returns
returns c = refl
