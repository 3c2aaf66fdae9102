-- `first` takes the block at the start. Assumes nothing.
use mathlib.Core.Path.{sym, ◌∙◌}
use Rattle.answer.proofs.Outcomes.{handed-on}
use Rattle.block.proofs.Blocks.{block-fits}
use Rattle.frame.proofs.Ways.{first-refused, first_found}
use Rattle.frame.proofs.walk.first.Goals as goal

pub first_step-requires : goal.first_step-requires
first_step-requires c = block-fits _ _ _ (sym c.block_at.ensures ∙ c.in_ok-b.was)

pub returns-in_err-b : goal.returns-in_err-b
returns-in_err-b c = handed-on c.from_residual.ensures.1 ∙ sym (first-refused _ _ (sym c.block_at.ensures ∙ c.in_err-b.was))

pub returns : goal.returns
returns c = c.first_step.ensures ∙ sym (first_found _ _ (sym c.block_at.ensures ∙ c.in_ok-b.was))
