-- `types::parts::lengths_fit` tests each part length. Assumes nothing.
use Rattle.std.proofs.Common.{rules}
use Rattle.types.specs.Parts.{fits, lengths_fit}
use Rattle.types.proofs.Tested.{all_tested}
use Rattle.types.proofs.parts.lengths_fit.Goals as goal

pub returns : goal.returns
unfolding lengths_fit
returns c = all_tested (fits c.args.r.least_vertices c.args.r.most_vertices) c.args.lens.now c.all.result (search rules)
