-- `column::walk::fill_on` gives values as long as an entry is sure to lie inside the bytes: one of either kind, and then the steps that follow
-- it, if they are asked for. The invariant: the walk went from where it began to here. Assumes nothing.
use Prim.Native.Nat.{◌+◌}
use native.Mathlib.Omega.{arith}
use lib.ListN.{set}
use Rattle.le.specs.Number.{number}
use Rattle.column.specs.Position.{position}
use Rattle.column.specs.Filling.{Went}
use Rattle.column.proofs.Filling.{went-none, went-more, went-again}
use Rattle.column.proofs.walk.fill_on.Given.{Over}
use Rattle.column.proofs.walk.fill_on.Goals as goal
use Rattle.column.proofs.walk.fill_on.Goals.{After-entry_inside-e}

-- one value more
one : (g : Over) (c : After-entry_inside-e g)
    → Went 64 (number c.args.s.now) c.args.n (position c.args.from.at c.args.from.given c.args.from.width c.args.from.last) c.args.out.now
    (position c.entry_inside-e.result.next (c.loop-i.i + 1) c.args.from.width c.entry_inside-e.result.value)
    (set c.loop-i.out c.loop-i.i c.entry_inside-e.result.value)
one g c = went-more _ _ _ _ _ c.loop-i.invariant _ _ c.requires.fillable.wide c.loop-i-test.true c.requires.fillable.room c.entry_inside-e.ensures

pub loop-i-init : goal.loop-i-init
loop-i-init g c = went-none c.requires.fillable.given

pub fill_steps-p-requires-clause-at_bound : goal.fill_steps-p-requires-clause-at_bound
fill_steps-p-requires-clause-at_bound g c =
    let more = one g (goal.at.fill_steps-p-requires-clause-at_bound g c).After-entry_inside-e in
    omega (arith, more.bound, c.requires.fillable.few)

pub loop-i-preserved-then-this-ne0 : goal.loop-i-preserved-then-this-ne0
loop-i-preserved-then-this-ne0 g c = went-again _ (one g (goal.at.loop-i-preserved-then-this-ne0 g c).After-entry_inside-e) c.fill_steps-p.ensures.0

pub loop-i-preserved : goal.loop-i-preserved
loop-i-preserved g c = one g (goal.at.loop-i-preserved g c).After-entry_inside-e
