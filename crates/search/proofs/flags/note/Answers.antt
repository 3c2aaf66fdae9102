-- `search::flags::note` sets the bit of a hit, and leaves the flags of none. Assumes nothing.
use Rattle.search.proofs.Marks.{note-hit, note-none}
use native.Mathlib.Omega.{arith}
use Rattle.search.proofs.flags.note.Goals as goal

pub returns-then-hit : goal.returns-then-hit
returns-then-hit c =
    let n = note-hit _ _ _ _ _ _ c.if-hit.true c.mark.ensures in
    (omega arith, n.0, n.1)

pub returns : goal.returns
returns c =
    let n = note-none _ _ _ _ _ c.if-hit.false in
    (omega arith, n.0, n.1)
