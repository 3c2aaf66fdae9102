-- `column::walk::steps_end` gives the lesser of the two places; neither the product nor the sum is too large. Assumes nothing.
use native.Mathlib.Omega.{arith}
use Rattle.column.proofs.Stepping.{steps-few}
use Rattle.column.proofs.walk.steps_end.Goals as goal

pub overflow_mul-end : goal.overflow_mul-end
overflow_mul-end c = omega (arith, steps-few c.args.w c.args.left c.requires.0 c.requires.1)

pub overflow_add-end : goal.overflow_add-end
overflow_add-end c = omega (arith, steps-few c.args.w c.args.left c.requires.0 c.requires.1, c.requires.2)
