-- `at_end` looks at the kind. Assumes nothing.
use native.Mathlib.Omega.{arith}
use Rattle.frame.specs.Next.{ends_at}
use Rattle.frame.proofs.Found.{step-there}
use Rattle.frame.proofs.read.at_end.Goals as goal

pub kind_at-requires : goal.kind_at-requires
kind_at-requires c = omega (arith, step-there _ _ _ c.requires.1)

pub returns : goal.returns
unfolding ends_at
returns c = rw c.kind_at.ensures
