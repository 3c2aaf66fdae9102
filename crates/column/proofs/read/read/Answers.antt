-- `column::read::read` gives the outcome of reading: 3, 2, and then decoding through a scratch. Assumes nothing.
use native.Mathlib.Omega.{arith}
use Rattle.answer.proofs.Outcomes.{fills-refused}
use Rattle.column.proofs.Decoding.{read-many, read-room, read-passed}
use Rattle.column.proofs.read.read.Goals as goal

pub returns-then-n-gt-MOST_VERTICES : goal.returns-then-n-gt-MOST_VERTICES
returns-then-n-gt-MOST_VERTICES c =
    let a = c.args in
    rw c.refused.ensures (fills-refused _ (read-many 64 a.s.now a.n _ c.if-n-gt-MOST_VERTICES.true))

pub returns-then-out-n : goal.returns-then-out-n
returns-then-out-n c =
    let a = c.args in
    rw c.refused-then-out-n.ensures (fills-refused _ (read-room 64 a.s.now a.n _ c.if-n-gt-MOST_VERTICES.false c.if-out-n.true))

pub returns : goal.returns
returns c =
    let a = c.args in
    read-passed 64 a.s.now a.n a.out.now (omega arith) (omega arith) c.through_own.ensures
