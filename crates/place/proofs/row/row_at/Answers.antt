-- `place::row::row_at` reads the row in the part of the file that is the page's body. Assumes nothing.
use Rattle.page.proofs.Opening.{part_of}
use Rattle.place.proofs.row.row_at.Goals as goal

pub row_in-requires : goal.row_in-requires
row_in-requires c =
    let q = c.requires.1 in
    ((q.0, rw (part_of c.args.s.now c.args.p.body c.args.p.len) q.1), c.requires.2)

pub returns : goal.returns
returns c = rw (← part_of c.args.s.now c.args.p.body c.args.p.len) c.row_in.ensures
