-- `page::open::open` cuts the page at the cursor from the file, loads it into the rooms, and gives a refusal its page. Assumes nothing.
use mathlib.Core.Path.{sym, ◌∙◌}
use native.Mathlib.Omega.{arith}
use Rattle.answer.specs.Refusal.{on_page}
use Rattle.answer.proofs.Outcomes.{handed-on, marked-ok, marked-failed}
use Rattle.frame.proofs.Found.{page-is}
use Rattle.page.proofs.Opening.{part_of, opens-refused, opens-page}
use Rattle.page.proofs.open.open.Goals as goal

pub overflow_add-to : goal.overflow_add-to
overflow_add-to c =
    omega (arith, (page-is _ _ _ c.page_at-p.ensures).stands.fits, c.well_formed.0.0)

pub slice_bounds-load_first-end : goal.slice_bounds-load_first-end
slice_bounds-load_first-end c =
    (page-is _ _ _ c.page_at-p.ensures).stands.fits

pub load_first-held-requires : goal.load_first-held-requires
load_first-held-requires c =
    let p = c.page_at-p.result in
    record { by_index = (c.args.c.edition, rw (part_of c.args.s.now p.body p.len) (page-is _ _ _ c.page_at-p.ensures).headed); rooms = c.requires.rooms }

pub overflow_cast-c : goal.overflow_cast-c
overflow_cast-c c = let w = c.requires.within in record { fits = omega (arith, w.pages, w.shapes) }

pub returns-in_err-in_page : goal.returns-in_err-in_page
returns-in_err-in_page c =
    let s = c.args.s.now in
    let p = c.page_at-p.result in
    let m = marked-failed (on_page c.args.c.pages) _ _ (sym c.in_page.ensures ∙ c.in_err-in_page.was) in
    rw (handed-on c.from_residual.ensures.1)
    (opens-refused _ _ _ p c.page_at-p.ensures m.0 _ m.2 (rw (← part_of s p.body p.len) (rw m.1 at c.load_first-held.ensures.verdict)))

pub returns : goal.returns
returns c =
    let s = c.args.s.now in
    let p = c.page_at-p.result in
    let y = c.load_first-held.ensures.lists (marked-ok (on_page c.args.c.pages) _ _ (sym c.in_page.ensures ∙ c.in_ok-in_page.was)) in
    opens-page _ _ _ p c.page_at-p.ensures (rw (part_of s p.body p.len) at y)
