-- `put_field` leaves the list that `put_field` says, by either way. Assumes nothing.
use native.Mathlib.Omega.{arith}
use Rattle.le.proofs.PutWays.{put-fast, put-slow}
use Rattle.le.proofs.bits.put_field.Goals as goal

pub returns-then-i-s : goal.returns-then-i-s
returns-then-i-s c =
    let k = c in
    put-fast c.args.s.now c.args.at c.args.v k.mask-keep.result k.byte.result c.ranges.v.fits k.byte.ensures k.mask-keep.ensures
    c.put_u64.new.d c.top.result c.top.ensures c.put_u64.ensures

pub returns-else-i-s : goal.returns-else-i-s
returns-else-i-s c =
    let k = c in
    put-slow c.args.s.now c.args.at c.args.v k.mask-keep.result k.byte.result c.ranges.v.fits k.byte.ensures k.mask-keep.ensures
    c.store_tail.new.s (omega arith) c.store_tail.ensures
