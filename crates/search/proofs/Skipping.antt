-- Pages that a search passes by, since the query meets none of them: what is found does not change. Assumes nothing.
use mathlib.Core.Path.{◌≡◌, refl, sym, ap, subst, ◌∙◌}
use mathlib.Core.Bool.{true, false}
use mathlib.Core.List.{List, []}
use Prim.Native.Nat.{ℕ, suc, ◌+◌, ◌-◌, ◌<◌}
use native.Mathlib.Numerals.{add-one}
use native.Mathlib.Omega.{arith}
use Rattle.answer.specs.Outcome.{ok}
use Rattle.extent.specs.Boxes.{patterns}
use Rattle.query.specs.declared.ask.Ask.{Ask}
use Rattle.query.specs.Ask.{opens}
use Rattle.frame.specs.declared.cursor.Cursor.{Cursor}
use Rattle.frame.specs.declared.cursor.PageAt.{PageAt}
use Rattle.frame.specs.Next.{page, end, next_of}
use Rattle.frame.specs.Frame.{Page, page_of}
use Rattle.answer.proofs.Outcomes.{ok-inj}
use Rattle.frame.proofs.Ways.{page-not-end, page-inj}
use Rattle.frame.proofs.Found.{page-is}
use Rattle.frame.proofs.Walks.{pages-on, shapes-on}
use Rattle.frame.specs.Ahead.{Ahead}
use Rattle.frame.proofs.Ahead.{ahead-page, ahead-fewer}
use Rattle.search.specs.Search.{met_of}
use Rattle.search.specs.Skipped.{Skipping, Skips}
use Rattle.search.proofs.Sequence.{met-page, met-alone}
use Rattle.search.proofs.Opened.{page-unopened}

-- no page yet
pub skipping-start : (a : Ask) (s : List ℕ) (c : Cursor) (ps : List Page) → Ahead s c ps → Skipping a s c c
skipping-start a s c ps h = record { coming = ps; left = ps; from_c = h; from_d = h; same = refl; onward = omega arith; further = omega arith }

module _ (a : Ask) (s : List ℕ) (c d : Cursor) (k : Skipping a s c d) where
  -- the end, where no page is opened
  pub skips-end : next_of s d ≡ ok end → Skips a s c d
  skips-end e = record { skipping = k; opened = λ p h. absurd (page-not-end (ok-inj (sym h ∙ e))) }

  module _ (p : PageAt) (here : next_of s d ≡ ok (page p)) where
    -- a page that is opened
    pub skips-page : opens a p.head.v (patterns p.head.stored) ≡ true → Skips a s c d
    skips-page t = record {
      skipping = k;
      opened = λ q h. subst (λ (x : PageAt). opens a x.head.v (patterns x.head.stored) ≡ true) (page-inj (ok-inj (sym here ∙ h))) t;
    }

    pub skipping-fewer : 1025 - p.next.pages < 1025 - d.pages
    skipping-fewer = ahead-fewer s d k.left k.from_d p here

    -- one that is not
    pub skipping-more : opens a p.head.v (patterns p.head.stored) ≡ false → Skipping a s c p.next
    skipping-more t =
        let r = ahead-page s d k.left k.from_d p here in
        let paged = page-is s d p here in
        let shapes : p.next.shapes ≡ d.shapes + p.head.g = shapes-on s d k.from_d.within p paged in
        let up : suc d.pages ≡ p.next.pages = sym (pages-on s d k.from_d.within p paged ∙ add-one d.pages) in
        record {
          coming = k.coming;
          left = r.0;
          from_c = k.from_c;
          from_d = r.2;
          same = k.same
              ∙ ap (met_of a d.pages d.shapes) r.1
              ∙ met-page a d.pages d.shapes (page_of s p) r.0 [] (page-unopened a d.pages d.shapes (page_of s p) t)
              ∙ sym (met-alone (met_of a (suc d.pages) (d.shapes + p.head.g) r.0))
              ∙ (λ i. met_of a (up i) (sym shapes i) r.0);
          onward = omega (arith, up, k.onward);
          further = omega (arith, shapes, k.further);
        }
