-- `column::walk::fill_steps` gives values as long as steps follow each other. The invariant: the walk went from where it began to here, and the
-- steps that are left would end where all of them would have; so before that place one is left. Assumes nothing.
use mathlib.Core.Path.{refl, ◌∙◌}
use Prim.Native.Nat.{◌+◌}
use native.Mathlib.Omega.{arith}
use Rattle.le.specs.Number.{number}
use Rattle.entry.proofs.Reading.{given-short}
use Rattle.column.proofs.Filling.{went-none, went-more}
use Rattle.column.proofs.Stepping.{step_left, step-on}
use Rattle.column.proofs.walk.fill_steps.Goals as goal

pub overflow_sub-n : goal.overflow_sub-n
overflow_sub-n c = c.requires.fillable.given

pub steps_end-end-requires : goal.steps_end-end-requires
steps_end-end-requires c = (c.requires.fillable.wide, omega (arith, c.requires.fillable.few), c.requires.at_bound)

pub loop-at-init : goal.loop-at-init
loop-at-init c = (went-none c.requires.fillable.given, omega arith, refl)

pub field_within-z-requires : goal.field_within-z-requires
field_within-z-requires c =
    (c.requires.fillable.wide, c.requires.fillable.marks, omega (arith, c.loop-at-test.true, c.steps_end-end.ensures.0, c.requires.limit_bound))

pub shape_of-out-then-m-z : goal.shape_of-out-then-m-z
shape_of-out-then-m-z c = c.loop-at.invariant.0.same

pub returns-then-m-z : goal.returns-then-m-z
returns-then-m-z c = let l = c.loop-at in (l.invariant.0, l.invariant.1)

pub overflow_add-at : goal.overflow_add-at
overflow_add-at c = omega (arith, c.loop-at.invariant.0.bound, c.requires.fillable.wide, c.requires.fillable.few, c.requires.at_bound)

pub offset_bounds-out-i : goal.offset_bounds-out-i
offset_bounds-out-i c = omega (arith, c.loop-at.invariant.0.most, c.requires.fillable.few)

pub bounds-out-i : goal.bounds-out-i
bounds-out-i c =
    let l = c.loop-at in
    let e = c.steps_end-end in
    let more = step_left c.args.from.width c.args.n l.i l.at e.result c.loop-at-test.true (omega (arith, e.ensures.1, l.invariant.2)) in
    omega (arith, more, c.requires.fillable.room, l.invariant.0.same)

pub overflow_add-i : goal.overflow_add-i
overflow_add-i c = omega (arith, c.loop-at.invariant.0.most, c.requires.fillable.few)

pub loop-at-smaller : goal.loop-at-smaller
loop-at-smaller c =
    let l = c.loop-at in
    let e = c.steps_end-end in
    let more = step_left c.args.from.width c.args.n l.i l.at e.result c.loop-at-test.true (omega (arith, e.ensures.1, l.invariant.2)) in
    omega (arith, more)

pub loop-at-preserved : goal.loop-at-preserved
loop-at-preserved c =
    let l = c.loop-at in
    let e = c.steps_end-end in
    let z = c.field_within-z in
    let w = c.args.from.width in
    let more = step_left w c.args.n l.i l.at e.result c.loop-at-test.true (omega (arith, e.ensures.1, l.invariant.2)) in
    let said = given-short 64 (number c.args.s.now) w l.at l.last z.result z.ensures c.args.m c.stepped-last.result c.requires.fillable.marks c.if-m-z.false c.stepped-last.ensures in (
      went-more l.at l.i w l.last l.out l.invariant.0 c.stepped-last.result (l.at + w) c.requires.fillable.wide more c.requires.fillable.room said,
      omega (arith, l.invariant.1),
      step-on w c.args.n l.i l.at more ∙ l.invariant.2,
    )

pub shape_of-out : goal.shape_of-out
shape_of-out c = c.loop-at.invariant.0.same

pub returns : goal.returns
returns c = let l = c.loop-at in (l.invariant.0, l.invariant.1)
