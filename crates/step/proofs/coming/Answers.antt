-- `step::coming` gives the value that comes, or the number of values. Assumes nothing.
use native.Mathlib.Omega.{arith}
use Rattle.step.proofs.Calls.{coming-next, coming-none}
use Rattle.step.proofs.coming.Goals as goal

pub returns-then-given-n : goal.returns-then-given-n
returns-then-given-n c =
    let a = c.args in
    (coming-next a.n a.given c.if-given-n.true, omega (arith, c.if-given-n.true))

pub returns-else-given-n : goal.returns-else-given-n
returns-else-given-n c =
    let a = c.args in
    (coming-none a.n a.given c.if-given-n.false, omega arith)
