-- `page_at` reads the page's length and its head, in the part of the file that is its body. Assumes nothing.
use mathlib.Core.Path.{sym, ap, ◌∙◌}
use native.Mathlib.Omega.{arith}
use Rattle.answer.proofs.Outcomes.{ok-inj}
use Rattle.frame.specs.declared.head.Head.{Head}
use Rattle.frame.proofs.Reading.{page-reaches, page-length, page-ends, page-few, page-head, page-read}
use Rattle.frame.proofs.read.page_at.Goals as goal

pub overflow_add-body : goal.overflow_add-body
overflow_add-body c = omega (arith, page-reaches _ _ _ c.requires.1.1, c.well_formed.0.0)

pub u32_at-len-requires : goal.u32_at-len-requires
u32_at-len-requires c = omega (arith, page-reaches _ _ _ c.requires.1.1)

pub overflow_add-end : goal.overflow_add-end
overflow_add-end c = omega (arith, c.u32_at-len.ensures.0, page-length _ _ _ c.requires.1.1, page-ends _ _ _ c.requires.1.1, c.well_formed.0.0)

pub slice_bounds-read_head-end : goal.slice_bounds-read_head-end
slice_bounds-read_head-end c = omega (arith, c.u32_at-len.ensures.0, page-length _ _ _ c.requires.1.1, page-ends _ _ _ c.requires.1.1)

pub read_head-head-requires : goal.read_head-head-requires
read_head-head-requires c = (_, page-head _ _ _ c.requires.1.1 _ c.u32_at-len.ensures.0)

pub overflow_add-result : goal.overflow_add-result
overflow_add-result c = omega (arith, (page-few _ _ _ c.requires.1.1).1)

pub overflow_add-result-2 : goal.overflow_add-result-2
overflow_add-result-2 c =
    let e = c.requires.1.1 in
    let f = page-few _ _ _ e in
    let g = ap (λ (h : Head). h.g) (ok-inj (sym c.read_head-head.ensures ∙ page-head _ _ _ e _ c.u32_at-len.ensures.0)) in
    omega (arith, g, f.0, f.1, c.requires.0)

pub returns : goal.returns
returns c = page-read _ _ _ c.requires.1.1 _ _ c.u32_at-len.ensures.0 c.read_head-head.ensures
