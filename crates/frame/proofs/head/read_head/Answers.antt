-- `read_head` reads the numbers of a head that has passed, and by the laws of heads they are all of it. Assumes nothing.
use mathlib.Core.Path.{ap, ◌∙◌}
use native.Mathlib.Omega.{arith}
use Rattle.answer.specs.Outcome.{ok}
use Rattle.frame.proofs.Heads.{head-is, head-reaches, head-finite, read-few, read-sizes, read_is}
use Rattle.frame.proofs.head.read_head.Goals as goal

pub u16_at-g-requires : goal.u16_at-g-requires
u16_at-g-requires c = omega (arith, head-reaches _ _ _ (head-is _ _ _ c.requires.1))

pub u16_at-v-requires : goal.u16_at-v-requires
u16_at-v-requires c = omega (arith, head-reaches _ _ _ (head-is _ _ _ c.requires.1))

pub u16_at-p-requires : goal.u16_at-p-requires
u16_at-p-requires c = omega (arith, head-reaches _ _ _ (head-is _ _ _ c.requires.1))

pub layout_of-layout-requires : goal.layout_of-layout-requires
layout_of-layout-requires c = read-few _ _ _ (head-is _ _ _ c.requires.1) _ _ _ c.u16_at-g.ensures.0 c.u16_at-v.ensures.0 c.u16_at-p.ensures.0

pub box_at-requires : goal.box_at-requires
box_at-requires c =
    (omega (arith, head-reaches _ _ _ (head-is _ _ _ c.requires.1)), head-finite _ _ _ (head-is _ _ _ c.requires.1))

pub u32_at-requires : goal.u32_at-requires
u32_at-requires c = omega (
  arith,
  (read-sizes _ _ _ (head-is _ _ _ c.requires.1) _ _ _ c.u16_at-g.ensures.0 c.u16_at-v.ensures.0
      c.u16_at-p.ensures.0 _ c.layout_of-layout.ensures),
)

pub overflow_add-sizes : goal.overflow_add-sizes
overflow_add-sizes c = omega (
  arith,
  (read-sizes _ _ _ (head-is _ _ _ c.requires.1) _ _ _ c.u16_at-g.ensures.0 c.u16_at-v.ensures.0
      c.u16_at-p.ensures.0 _ c.layout_of-layout.ensures),
  c.well_formed.1.0,
)

pub u32_at-requires-2 : goal.u32_at-requires-2
u32_at-requires-2 c = omega (
  arith,
  (read-sizes _ _ _ (head-is _ _ _ c.requires.1) _ _ _ c.u16_at-g.ensures.0 c.u16_at-v.ensures.0
      c.u16_at-p.ensures.0 _ c.layout_of-layout.ensures),
)

pub returns : goal.returns
returns c =
    let d = c in
    let s = d in
    s.requires.1
    ∙ ap ok (read_is _ _ _ (head-is _ _ _ c.requires.1) _ _ _ d.u16_at-g.ensures.0 d.u16_at-v.ensures.0 d.u16_at-p.ensures.0
    _ d.layout_of-layout.ensures _ _ _ c.u32_at.ensures.0 c.u32_at-2.ensures.0 c.box_at.ensures)
