-- `pageblock::plan::plan_of` lays the parts out and measures the columns: all of it is small. Assumes nothing.
use Prim.Native.Nat.{◌+◌, ◌≤◌}
use mathlib.Core.Path.{refl, ap}
use native.Mathlib.Omega.{arith}
use Rattle.frame.specs.declared.layout.Layout.{Layout}
use Rattle.frame.proofs.Layouts.{columns-le}
use Rattle.pageblock.proofs.Sizes.{sized, column-most}
use Rattle.pageblock.proofs.plan.plan_of.Goals.{After-fit-y}
use Rattle.pageblock.proofs.plan.plan_of.Goals as goal

-- the columns' place and their sizes are small
few : (c : After-fit-y) → c.layout_of-layout.result.columns + c.fit-x.result.bytes + c.fit-y.result.bytes ≤ 40000
few c =
    let q = c.requires in
    omega (
      arith,
      ap (λ (l : Layout). l.columns) c.layout_of-layout.ensures,
      columns-le c.args.edition _ _ q.shapes q.parts,
      column-most _ q.vertices,
      column-most _ q.even,
      c.fit-x.ensures.1,
      c.fit-y.ensures.1,
    )

pub overflow_add-len : goal.overflow_add-len
overflow_add-len c = omega (arith, few (goal.at.overflow_add-len c).After-fit-y)

pub overflow_add-len-2 : goal.overflow_add-len-2
overflow_add-len-2 c = omega (arith, few (goal.at.overflow_add-len-2 c).After-fit-y)

pub returns : goal.returns
returns c =
    let x = c.fit-x.ensures in
    let y = c.fit-y.ensures in
    record { edition = refl; layout = c.layout_of-layout.ensures; columns = (sized _ _ x.0 x.1, sized _ _ y.0 y.1); whole = refl }
