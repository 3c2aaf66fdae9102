-- `column::write::put` puts the column: its width, its first pattern, its entries, and zero bits to the end of the part. Assumes nothing.
use Prim.Native.Nat.{◌<◌}
use mathlib.Core.Path.{ap}
use native.Mathlib.Omega.{arith}
use lib.ListN.{length, get_or}
use lib.Pow.{pow_pos}
use Rattle.le.proofs.Puts.{length-put}
use Rattle.column.proofs.Writing.{put-none, part-size, put_all}
use Rattle.column.proofs.write.put.Goals as goal

pub returns-then-count-eq0 : goal.returns-then-count-eq0
returns-then-count-eq0 c = put-none 64 c.args.n c.args.vs.now c.args.part.now c.if-count-eq0.true c.requires.2

pub put_field-requires : goal.put_field-requires
put_field-requires c =
    let some : 0 < length c.args.vs.now = omega (arith, c.if-count-eq0.false) in
    let size = part-size 64 c.args.n c.args.vs.now c.args.part.now some c.requires.2 in
    (omega arith, omega (arith, c.requires.0), omega (arith, size))

pub put_field-requires-2 : goal.put_field-requires-2
put_field-requires-2 c =
    let some : 0 < length c.args.vs.now = omega (arith, c.if-count-eq0.false) in
    let size = part-size 64 c.args.n c.args.vs.now c.args.part.now some c.requires.2 in
    (omega arith, (c.shared_slice_known-2-1.given 0).fits, omega (arith, size, ap length c.put_field.ensures, length-put c.args.part.now 0 c.args.n))

pub put_entries-end-requires : goal.put_entries-end-requires
put_entries-end-requires c =
    let put-field = c.put_field in
    let some : 0 < length c.args.vs.now = omega (arith, c.if-count-eq0.false) in
    let size = part-size 64 c.args.n c.args.vs.now c.args.part.now some c.requires.2 in record {
      n_bound = (c.requires.0, c.marker.ensures, some, c.requires.1);
      vs_bound = omega (
        arith,
        size,
        ap length c.put_field-2.ensures,
        length-put put-field.new.s 8 (get_or c.args.vs.now 0 0),
        ap length put-field.ensures,
        length-put c.args.part.now 0 c.args.n,
      );
    }

pub put_field-requires-3 : goal.put_field-requires-3
put_field-requires-3 c =
    let some : 0 < length c.args.vs.now = omega (arith, c.if-count-eq0.false) in
    let size = part-size 64 c.args.n c.args.vs.now c.args.part.now some c.requires.2 in
    (omega arith, pow_pos _, omega (arith, size, c.put_entries-end.ensures.place))

pub returns : goal.returns
returns c =
    let slice-known = c.slice_known-1 in
    let shared-slice-known = c.shared_slice_known-1 in
    let if1 = c.if-count-eq0 in
    let put-field = c.put_field in
    let put-field2 = c.put_field-2 in
    let put_entries = c.put_entries-end in
    let some : 0 < length c.args.vs.now = omega (arith, if1.false) in
    put_all 64 c.args.n c.args.vs.now c.args.part.now some c.requires.2 put-field.new.s put-field2.new.s put_entries.new.part c.put_field-3.new.s put_entries.result
    c.requires.0 (omega arith) (λ i. (slice-known.given i).fits) (λ i. (shared-slice-known.given i).fits)
    put-field.ensures put-field2.ensures (put_entries.ensures.entries, put_entries.ensures.place) c.put_field-3.ensures
