-- `entry::unzigzag` gives the definition's step, by its two cases. Assumes nothing.
use Rattle.std.proofs.Common.{eq-eqb, ne_eqb}
use Rattle.entry.specs.Step.{unzigzag}
use Rattle.entry.proofs.unzigzag.Goals as goal

pub returns-then-z-eq0 : goal.returns-then-z-eq0
unfolding unzigzag
returns-then-z-eq0 c = simp (eq-eqb _ _ c.if-z-eq0.true)

pub returns-else-z-eq0 : goal.returns-else-z-eq0
unfolding unzigzag
returns-else-z-eq0 c = simp (ne_eqb _ _ c.if-z-eq0.false)
