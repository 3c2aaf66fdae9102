-- `layout_of` adds up the layout as the definition does; nothing wraps, since the registers take little. Assumes nothing.
use Prim.Native.Nat.{◌*◌, ◌≤◌}
use native.Mathlib.Omega.{arith}
use Rattle.frame.specs.Layout.{layout_of}
use Rattle.frame.proofs.Layouts.{registers-le}
use Rattle.frame.proofs.layout.layout_of.Goals.{After-each-each}
use Rattle.frame.proofs.layout.layout_of.Goals as goal

-- the registers take little
small : (c : After-each-each) → c.each-each.result * c.args.g ≤ 2048
small c = rw c.each-each.ensures (registers-le c.args.edition c.args.g c.requires.0)

pub overflow_mul-types : goal.overflow_mul-types
overflow_mul-types c = omega (arith, small (goal.at.overflow_mul-types c).After-each-each)

pub overflow_add-types : goal.overflow_add-types
overflow_add-types c = omega (arith, small (goal.at.overflow_add-types c).After-each-each)

pub overflow_add-counts : goal.overflow_add-counts
overflow_add-counts c = omega (arith, small (goal.at.overflow_add-counts c).After-each-each)

pub overflow_add-lens : goal.overflow_add-lens
overflow_add-lens c = omega (arith, small (goal.at.overflow_add-lens c).After-each-each)

pub overflow_add-sizes : goal.overflow_add-sizes
overflow_add-sizes c = omega (arith, small (goal.at.overflow_add-sizes c).After-each-each)

pub overflow_add-columns : goal.overflow_add-columns
overflow_add-columns c = omega (arith, small (goal.at.overflow_add-columns c).After-each-each)

pub returns : goal.returns
unfolding layout_of
returns c = rw c.each-each.ensures
