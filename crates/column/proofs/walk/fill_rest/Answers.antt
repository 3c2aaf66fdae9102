-- `column::walk::fill_rest` gives the rest of the values. The invariant: the walk went from where it began to here. Assumes nothing.
use mathlib.Core.Path.{refl}
use native.Mathlib.Omega.{arith}
use Rattle.le.specs.Number.{number}
use Rattle.entry.proofs.Reading.{size-le}
use Rattle.column.proofs.Filling.{went-none, went-more, went-to}
use Rattle.column.proofs.walk.fill_rest.Goals as goal

pub loop-i-init : goal.loop-i-init
loop-i-init c = went-none c.requires.fillable.given

pub entry_at-e-requires : goal.entry_at-e-requires
entry_at-e-requires c =
    let l = c.loop-i in
    (c.requires.fillable.wide, c.requires.fillable.marks, omega (arith, l.invariant.bound, size-le 64 (number c.args.s.now) c.args.from.width l.at c.requires.fillable.wide))

pub bounds-out-i : goal.bounds-out-i
bounds-out-i c = omega (arith, c.loop-i.invariant.same)

pub loop-i-preserved : goal.loop-i-preserved
loop-i-preserved c =
    let l = c.loop-i in
    went-more l.at l.i c.args.from.width l.last l.out l.invariant c.entry_at-e.result.value c.entry_at-e.result.next
    c.requires.fillable.wide c.loop-i-test.true c.requires.fillable.room c.entry_at-e.ensures

pub shape_of-out : goal.shape_of-out
shape_of-out c = c.loop-i.invariant.same

pub returns : goal.returns
returns c = (went-to c.loop-i.invariant c.loop-i-test.false, refl)
