-- `put_u32` stores the four low bytes of x: the lower half, and the upper half behind it. Nothing is assumed.
use Rattle.le.proofs.Stores.{stores-join}
use Rattle.le.proofs.number.put_u32.Goals as goal

pub returns : goal.returns
returns c =
    let first = c.put_u16 in
    let a = c.args in
    stores-join 2 2 a.d.now _ _ a.at a.x first.ensures c.put_u16-2.ensures
