-- `column::write::put_entries` puts the entries of all values after the first. The invariant: what is still to be put makes the same whole.
-- Assumes nothing.
use Prim.Native.Nat.{◌+◌, ◌-◌, ◌<◌}
use native.Mathlib.Omega.{arith}
use lib.ListN.{length}
use Rattle.column.proofs.Writing.{behind-first, putting-none, putting-room, putting-small, putting-more, putting-done}
use Rattle.column.proofs.write.put_entries.Goals as goal

pub loop-v-init : goal.loop-v-init
loop-v-init c = putting-none 64 c.args.n c.args.vs.now c.args.part.now c.requires.n_bound.2

pub put_entry-at-requires : goal.put_entry-at-requires
put_entry-at-requires c =
    let p = c.loop-v.invariant in
    let h : c.loop-v.v-index < length c.args.vs.now - 1 = omega arith in
    let l : c.loop-v.v-index + 1 < length c.args.vs.now = omega arith in
    rw (behind-first c.args.vs.now c.loop-v.v-index h) (
      c.requires.n_bound.0,
      c.requires.n_bound.1,
      putting-room p l c.requires.vs_bound,
      omega (arith, putting-small p c.requires.n_bound.0),
    )

pub loop-v-preserved : goal.loop-v-preserved
loop-v-preserved c =
    let h : c.loop-v.v-index < length c.args.vs.now - 1 = omega arith in
    let l : c.loop-v.v-index + 1 < length c.args.vs.now = omega arith in
    let b = behind-first c.args.vs.now c.loop-v.v-index h in
    rw b (putting-more c.loop-v.invariant _ _ l (rw b at c.put_entry-at.ensures))

pub returns : goal.returns
returns c = let both = putting-done c.loop-v.invariant (omega arith) in record { entries = both.0; place = both.1 }
