-- `pageblock::body::put_columns` puts the two byte lengths and the two columns, one behind the other. Assumes nothing.
use Rattle.pageblock.proofs.Storing.{columns-put}
use Rattle.pageblock.proofs.body.put_columns.Goals as goal

pub returns : goal.returns
returns c =
    let put-u32 = c.put_u32 in
    let put-u322 = c.put_u32-2 in
    let put-column = c.put_column in
    let a = c.args in
    let p = c.requires in
    columns-put a.xs.now a.ys.now a.d.now _ _ _ _ a.at a.fx.bytes a.fy.bytes p.2.size p.3.size put-u32.ensures put-u322.ensures put-column.ensures c.put_column-2.ensures
