-- `measure_decode` judges count and room as a read does, and then decodes: one law for each return. Assumes nothing.
use Rattle.std.proofs.Common.{◌∙◌, arith}
use Rattle.measure.proofs.Measured.{many, room, decoded}
use Rattle.measure.proofs.measure_decode.Goals as goal

pub returns-then-n-gt-MOST_VERTICES : goal.returns-then-n-gt-MOST_VERTICES
returns-then-n-gt-MOST_VERTICES c =
    let a = c.args in
    let q = many 64 a.s.now a.n a.out.now c.if-n-gt-MOST_VERTICES.true in
    record { word = c.wide.ensures ∙ q.0; room = q.1 }

pub returns-then-out-n : goal.returns-then-out-n
returns-then-out-n c =
    let a = c.args in
    let q = room 64 a.s.now a.n a.out.now c.if-n-gt-MOST_VERTICES.false c.if-out-n.true in
    record { word = c.wide-then-out-n.ensures ∙ q.0; room = q.1 }

pub returns : goal.returns
returns c =
    let a = c.args in
    let d = c.decode in
    let q = decoded 64 a.s.now a.n a.out.now (omega arith) (omega arith) d.result d.new.out d.ensures in
    record { word = c.number_of.ensures ∙ q.0; room = q.1 }
