-- `pageblock::body::put_bounds` puts four patterns, one behind the other. Assumes nothing.
use Rattle.pageblock.proofs.Storing.{box-put}
use Rattle.pageblock.proofs.body.put_bounds.Goals as goal

pub returns : goal.returns
returns c =
    let put-u64 = c.put_u64 in
    let put-u642 = c.put_u64-2 in
    let put-u643 = c.put_u64-3 in
    let a = c.args in
    box-put a.b a.d.now _ _ _ _ a.at put-u64.ensures put-u642.ensures put-u643.ensures c.put_u64-4.ensures
