-- `column::walk::fill_last` gives values as long as steps follow each other in the last eight bytes. The invariant: the walk went from where it
-- began to here, and the place lies in those bytes or behind them. Nothing is assumed.
use Prim.Native.Nat.{◌+◌, ◌/◌}
use native.Mathlib.Omega.{arith}
use lib.ListN.{length}
use borrow.Author.Tests.{ltb-true}
use Rattle.le.specs.Number.{number}
use Rattle.entry.proofs.Reading.{given-short}
use Rattle.column.proofs.Filling.{went-none, went-more}
use Rattle.column.proofs.walk.fill_last.Goals as goal

pub overflow_add-at : goal.overflow_add-at
overflow_add-at c = omega (arith, c.requires.at_bound)

pub returns-then-at-len : goal.returns-then-at-len
returns-then-at-len c = went-none c.requires.fillable.given

pub returns-then-len-lt8 : goal.returns-then-len-lt8
returns-then-len-lt8 c = went-none c.requires.fillable.given

pub loop-i-init : goal.loop-i-init
loop-i-init c = (went-none c.requires.fillable.given, omega (arith, c.if-at-len.false))

pub field_in_last_eight-e-requires : goal.field_in_last_eight-e-requires
field_in_last_eight-e-requires c =
    let l = c.loop-i in
    let long = c.if-len-lt8.false in
    let here = ltb-true (l.at / 8) (length c.args.s.now) c.if-at-len-2.true-raw in
    (omega (arith, long), omega (arith, long, l.invariant.1), omega (arith, here))

pub shape_of-out-then-m-e : goal.shape_of-out-then-m-e
shape_of-out-then-m-e c = c.loop-i.invariant.0.same

pub returns-then-m-e : goal.returns-then-m-e
returns-then-m-e c = c.loop-i.invariant.0

pub overflow_add-at-in-loop-i : goal.overflow_add-at-in-loop-i
overflow_add-at-in-loop-i c = omega (arith, c.loop-i.invariant.0.bound, c.requires.fillable.wide, c.requires.fillable.few, c.requires.at_bound)

pub offset_bounds-out-i : goal.offset_bounds-out-i
offset_bounds-out-i c = omega (arith, c.loop-i.invariant.0.most, c.requires.fillable.few)

pub bounds-out-i : goal.bounds-out-i
bounds-out-i c = omega (arith, c.loop-i-test.true, c.requires.fillable.room, c.loop-i.invariant.0.same)

pub overflow_add-i : goal.overflow_add-i
overflow_add-i c = omega (arith, c.loop-i-test.true)

pub loop-i-smaller : goal.loop-i-smaller
loop-i-smaller c = omega (arith, c.loop-i-test.true)

pub loop-i-preserved : goal.loop-i-preserved
loop-i-preserved c =
    let l = c.loop-i in
    let more = c.loop-i-test.true in
    let z = c.field_in_last_eight-e in
    let w = c.args.from.width in
    let said = given-short 64 (number c.args.s.now) w l.at l.last z.result (z.ensures w c.requires.fillable.marks) c.args.m c.stepped-last.result c.requires.fillable.marks c.if-m-e.false c.stepped-last.ensures in
    (went-more l.at l.i w l.last l.out l.invariant.0 c.stepped-last.result (l.at + w) c.requires.fillable.wide more c.requires.fillable.room said, omega (arith, l.invariant.1))

pub shape_of-out-else-at-len-2 : goal.shape_of-out-else-at-len-2
shape_of-out-else-at-len-2 c = c.loop-i.invariant.0.same

pub returns-else-at-len-2 : goal.returns-else-at-len-2
returns-else-at-len-2 c = c.loop-i.invariant.0

pub shape_of-out-after-loop-i : goal.shape_of-out-after-loop-i
shape_of-out-after-loop-i c = c.loop-i.invariant.0.same

pub returns-after-loop-i : goal.returns-after-loop-i
returns-after-loop-i c = c.loop-i.invariant.0
