-- `glance` reads the few numbers of a page that has passed in the file's own bytes. Assumes nothing.
use native.Mathlib.Omega.{arith}
use Rattle.frame.proofs.Reading.{page-reaches, page-length, page-ends, page-shapes, page-finite, page-few, glance-is}
use Rattle.frame.proofs.read.glance.Goals as goal

pub overflow_add-body : goal.overflow_add-body
overflow_add-body c = omega (arith, page-reaches _ _ _ c.requires.1.1, c.well_formed.0.0)

pub overflow_add-body-2 : goal.overflow_add-body-2
overflow_add-body-2 c = omega (arith, page-reaches _ _ _ c.requires.1.1, c.well_formed.0.0)

pub u16_at-requires : goal.u16_at-requires
u16_at-requires c = omega (arith, page-reaches _ _ _ c.requires.1.1)

pub overflow_add-body-3 : goal.overflow_add-body-3
overflow_add-body-3 c = omega (arith, page-reaches _ _ _ c.requires.1.1, c.well_formed.0.0)

pub box_at-requires : goal.box_at-requires
box_at-requires c = (omega (arith, page-reaches _ _ _ c.requires.1.1), page-finite _ _ _ c.requires.1.1)

pub u32_at-requires : goal.u32_at-requires
u32_at-requires c = omega (arith, page-reaches _ _ _ c.requires.1.1)

pub overflow_add-result : goal.overflow_add-result
overflow_add-result c = omega (arith, c.u32_at.ensures.0, page-length _ _ _ c.requires.1.1, page-ends _ _ _ c.requires.1.1, c.well_formed.0.0)

pub overflow_add-result-2 : goal.overflow_add-result-2
overflow_add-result-2 c = omega (arith, (page-few _ _ _ c.requires.1.1).1)

pub overflow_add-body-4 : goal.overflow_add-body-4
overflow_add-body-4 c = omega (arith, page-reaches _ _ _ c.requires.1.1, c.well_formed.0.0)

pub u16_at-requires-2 : goal.u16_at-requires-2
u16_at-requires-2 c = omega (arith, page-reaches _ _ _ c.requires.1.1)

pub overflow_add-result-3 : goal.overflow_add-result-3
overflow_add-result-3 c =
    let f = page-few _ _ _ c.requires.1.1 in
    omega (arith, c.u16_at-2.ensures.0, page-shapes _ _ _ c.requires.1.1, f.0, f.1, c.requires.0)

pub returns : goal.returns
returns c =
    let d = c in
    let s = d in (
      s.requires.1.0,
      s.requires.1.1,
      glance-is _ _ _ s.requires.1.1 _ _ _ _ c.u32_at.ensures.0 c.u16_at-2.ensures.0
          d.u16_at.ensures.0 d.box_at.ensures,
    )
