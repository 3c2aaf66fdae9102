-- `Writer::page` gives the outcome of a page step: 18, 3, what the page's block over the buffer's rest refuses, or the block and one page more.
-- Assumes nothing.
use Prim.Native.Nat.{◌+◌, ◌≤◌}
use native.Mathlib.Omega.{arith}
use lib.ListN.{length}
use Rattle.pageblock.specs.Body.{handed_of}
use Rattle.writer.proofs.Stepping.{steps-refused}
use Rattle.writer.proofs.Ways.{page-closed, page-many, page-shapes}
use Rattle.writer.proofs.Paging.{start-inside, page-refused, page-fits, page-taken}
use Rattle.writer.proofs.Writer.page.Goals.{In-Ok}
use Rattle.writer.proofs.Writer.page.Goals as goal

pub returns-then-self : goal.returns-then-self
returns-then-self c = rw c.refused.ensures (steps-refused _ (page-closed _ _ _ c.if-self.true))

pub returns-then-pages-ge-MOST_PAGES : goal.returns-then-pages-ge-MOST_PAGES
returns-then-pages-ge-MOST_PAGES c =
    rw c.refused-then-pages-ge-MOST_PAGES.ensures (steps-refused _ (page-many _ _ _ c.if-self.false c.if-pages-ge-MOST_PAGES.true))

pub returns-then-shapes-gt-MOST_SHAPES : goal.returns-then-shapes-gt-MOST_SHAPES
returns-then-shapes-gt-MOST_SHAPES c =
    rw c.refused-then-shapes-gt-MOST_SHAPES.ensures
    (steps-refused _ (page-shapes _ _ _ c.if-self.false c.if-pages-ge-MOST_PAGES.false c.if-shapes-gt-MOST_SHAPES.true))

pub slice_bounds-page_block-count : goal.slice_bounds-page_block-count
slice_bounds-page_block-count c = omega (arith, c.start_of-from.ensures, start-inside c.args.self.position (length c.args.d.now))

pub slice_bounds-page_block-start : goal.slice_bounds-page_block-start
slice_bounds-page_block-start c = omega (arith, c.start_of-from.ensures, start-inside c.args.self.position (length c.args.d.now))

-- a block that was put fits, and has few shapes
fits_there : (c : In-Ok) → (c.args.self.position + c.in-Ok.n ≤ length c.args.d.now) × (length c.args.lists.registers.now ≤ 256)
fits_there c =
    let a = c.args in
    page-fits a.self a.d.now (handed_of a.lists) _ c.start_of-from.ensures c.if-self.false c.if-pages-ge-MOST_PAGES.false
    c.if-shapes-gt-MOST_SHAPES.false _ _ (rw c.in-Ok.is at c.page_block.ensures)

pub overflow_add-result : goal.overflow_add-result
overflow_add-result c = omega (arith, (fits_there (goal.at.overflow_add-result c).In-Ok).0)

pub overflow_cast-result : goal.overflow_cast-result
overflow_cast-result c = omega (arith, (fits_there (goal.at.overflow_cast-result c).In-Ok).1)

pub overflow_add-result-in-Ok-2 : goal.overflow_add-result-in-Ok-2
overflow_add-result-in-Ok-2 c = omega (arith, (fits_there (goal.at.overflow_add-result-in-Ok-2 c).In-Ok).1, c.if-shapes-gt-MOST_SHAPES.false)

pub returns-in-Err : goal.returns-in-Err
returns-in-Err c =
    page-refused _ _ _ _ c.start_of-from.ensures c.if-self.false c.if-pages-ge-MOST_PAGES.false c.if-shapes-gt-MOST_SHAPES.false _ _
    (rw c.in-Err.is at c.page_block.ensures)

pub returns-in-Ok : goal.returns-in-Ok
returns-in-Ok c =
    page-taken _ _ _ _ c.start_of-from.ensures c.if-self.false c.if-pages-ge-MOST_PAGES.false c.if-shapes-gt-MOST_SHAPES.false _ _
    (rw c.in-Ok.is at c.page_block.ensures)
