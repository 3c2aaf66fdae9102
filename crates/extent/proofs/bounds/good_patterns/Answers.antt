-- `extent::bounds::good_patterns` tests each axis. Assumes nothing.
use Rattle.std.proofs.Common.{sym, ◌∙◌}
use Rattle.answer.proofs.Both.{first-fails, then}
use Rattle.extent.proofs.Axes.{good-axes}
use Rattle.extent.proofs.bounds.good_patterns.Goals as goal

pub returns-then-good_axis : goal.returns-then-good_axis
returns-then-good_axis c = then _ _ _ (sym c.good_axis.ensures ∙ c.if-good_axis.true) c.good_axis-then-good_axis.ensures ∙ sym (good-axes _)

pub returns-else-good_axis : goal.returns-else-good_axis
returns-else-good_axis c = c.if-good_axis.false ∙ first-fails _ _ (sym c.good_axis.ensures ∙ c.if-good_axis.false) ∙ sym (good-axes _)
