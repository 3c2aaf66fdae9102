-- `put_u16` stores the two low bytes of x, one after another. Assumes nothing.
use native.Mathlib.Omega.{arith}
use lib.ListN.{length-set}
use Rattle.le.proofs.Stores.{store-first, store-more}
use Rattle.le.proofs.number.put_u16.Goals as goal

pub bounds-d-at-2 : goal.bounds-d-at-2
bounds-d-at-2 c = simp length-set (omega arith)

pub returns : goal.returns
returns c =
    let d = c.args.d.now in
    let at = c.args.at in
    let x = c.args.x in
    let h1 = store-first d at x _ c.low.ensures in
    store-more 1 d _ at x _ c.low-2.ensures h1
