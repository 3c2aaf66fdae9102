-- `pageblock::page_block::put_page` puts the head of the block, the counts, the box, the tables and the columns, one behind the other. Assumes nothing.
use Prim.Native.Nat.{◌+◌, ◌≤◌}
use mathlib.Core.Path.{◌≡◌}
use native.Mathlib.Omega.{arith}
use lib.ListN.{length}
use Rattle.frame.specs.Layout.{each}
use Rattle.pageblock.specs.Body.{handed_of, table_bytes}
use Rattle.pageblock.proofs.Sizes.{length-tables, length-body, tables-from, each_of, laid, sizes_at, sizes-few}
use Rattle.pageblock.proofs.Storing.{page-put}
use Rattle.pageblock.proofs.page_block.put_page.Goals.{Start}
use Rattle.pageblock.proofs.page_block.put_page.Goals as goal

-- the room holds the whole block
room_holds : (c : Start) → 52 + length (table_bytes (each c.args.plan.edition) (handed_of c.args.lists)) + c.args.plan.x.bytes + c.args.plan.y.bytes ≤ length c.args.d.now
room_holds c =
    let q = c.requires in
    let i = handed_of c.args.lists in
    let ed = c.args.plan.edition in
    omega (arith, q.1, q.0.whole, length-body ed i, length-tables (each ed) i, q.0.x.size, q.0.y.size)

-- the byte lengths of the columns stand behind the tables
sizes_there : (c : Start) → c.args.plan.layout.sizes ≡ 38 + length (table_bytes (each c.args.plan.edition) (handed_of c.args.lists))
sizes_there c = sizes_at _ _ _ c.requires.0.layout c.requires.0.even

pub put_counts-requires : goal.put_counts-requires
put_counts-requires c = omega (arith, room_holds (goal.at.put_counts-requires c).Start, c.put_head.auto.d)

pub put_bounds-requires : goal.put_bounds-requires
put_bounds-requires c = omega (arith, room_holds (goal.at.put_bounds-requires c).Start, c.put_head.auto.d, c.put_counts.auto.d)

pub put_tables-requires : goal.put_tables-requires
put_tables-requires c =
    let s = (goal.at.put_tables-requires c).Start in (
      laid _ _ _ c.requires.0.layout c.requires.0.even,
      omega (arith, room_holds s, sizes_there s, c.put_head.auto.d, c.put_counts.auto.d, c.put_bounds.auto.d),
    )

pub overflow_add-plan : goal.overflow_add-plan
overflow_add-plan c = omega (arith, sizes-few _ _ _ c.requires.0.layout c.requires.0.even)

pub put_columns-requires : goal.put_columns-requires
put_columns-requires c =
    let s = (goal.at.put_columns-requires c).Start in
    let p = c.requires.0 in (
      omega (arith, room_holds s, sizes_there s, c.put_head.auto.d, c.put_counts.auto.d, c.put_bounds.auto.d, c.put_tables.auto.d),
      p.vertices,
      p.x,
      p.y,
    )

pub shape_of-d : goal.shape_of-d
shape_of-d c = omega (arith, c.put_head.auto.d, c.put_counts.auto.d, c.put_bounds.auto.d, c.put_tables.auto.d, c.put_columns.auto.d)

pub returns : goal.returns
returns c =
    let i = handed_of c.args.lists in
    let l = c.requires.0.layout in
    let t = tables-from _ i _ l in
    page-put _ i _ _ _ _ _ _ _ _ _ _ _ c.requires.0.whole (each_of _ i _ l) (omega (arith, t)) (omega (arith, t, sizes_there (goal.at.returns c).Start))
    c.put_head.ensures c.put_counts.ensures c.stored_bounds.ensures c.put_bounds.ensures c.put_tables.ensures c.put_columns.ensures
