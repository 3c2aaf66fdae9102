-- `put_u64` stores the eight bytes of x: the lower half, and the upper half behind it. Nothing is assumed.
use Rattle.le.proofs.Stores.{stores-join}
use Rattle.le.proofs.number.put_u64.Goals as goal

pub returns : goal.returns
returns c =
    let first = c.put_u32 in
    let a = c.args in
    stores-join 4 4 a.d.now _ _ a.at a.x first.ensures c.put_u32-2.ensures
