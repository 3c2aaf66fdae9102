-- `pageblock::body::put_counts` puts the three counts, one behind the other. Assumes nothing.
use Rattle.pageblock.proofs.Storing.{counts-put}
use Rattle.pageblock.proofs.body.put_counts.Goals as goal

pub returns : goal.returns
returns c =
    let a = c.args in
    counts-put a.g a.v a.p a.d.now _ _ _ a.body c.put_u16.ensures c.put_u16-2.ensures c.put_u16-3.ensures
