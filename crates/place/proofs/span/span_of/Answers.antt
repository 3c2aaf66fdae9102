-- `place::span::span_of` sums up the parts and the vertices before a shape, and with its own. Assumes nothing.
use mathlib.Core.Path.{refl, sym}
use Prim.Native.Nat.{suc, ◌+◌, ◌≤◌}
use native.Mathlib.Omega.{arith}
use lib.ListN.{length, get_or}
use lib.Seq.{length-take-le}
use Rattle.types.proofs.Sums.{total-take-le}
use Rattle.place.proofs.Spans.{total-suc, span-is}
use Rattle.place.proofs.span.span_of.Goals as goal
use Rattle.place.proofs.span.span_of.Goals.{After-total-part}

-- the parts up to the shape's last are there
past : (c : After-total-part) → c.total-part.result + get_or c.args.counts.now c.args.i 0 ≤ length c.args.lens.now
past c =
    let a = c.args in
    omega (arith, c.total-part.ensures, total-suc a.counts.now a.i c.requires.i_in_bounds, total-take-le (suc a.i) a.counts.now, c.requires.counts_value)

pub total-part-requires : goal.total-part-requires
total-part-requires c = omega (arith, total-take-le c.args.i c.args.counts.now)

pub overflow_add-part_end : goal.overflow_add-part_end
overflow_add-part_end c = omega (arith, past (goal.at.overflow_add-part_end c).After-total-part)

pub slice_bounds-total-end-2 : goal.slice_bounds-total-end-2
slice_bounds-total-end-2 c = sym (length-take-le _ c.args.lens.now (omega (arith, past (goal.at.slice_bounds-total-end-2 c).After-total-part)))

pub total-vertex-requires : goal.total-vertex-requires
total-vertex-requires c = omega (arith, total-take-le c.total-part.result c.args.lens.now)

pub slice_bounds-total-end-3 : goal.slice_bounds-total-end-3
slice_bounds-total-end-3 c = sym (length-take-le _ c.args.lens.now (past (goal.at.slice_bounds-total-end-3 c).After-total-part))

pub total-vertex_end-requires : goal.total-vertex_end-requires
total-vertex_end-requires c = omega (arith, total-take-le (c.total-part.result + get_or c.args.counts.now c.args.i 0) c.args.lens.now)

pub returns : goal.returns
returns c = span-is c.args.counts.now c.args.lens.now c.args.i _ _ _ _ c.total-part.ensures refl c.total-vertex.ensures c.total-vertex_end.ensures
