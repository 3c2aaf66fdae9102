-- What is left of a file from a cursor on: one law for each turn of the walk over its pages. Assumes nothing.
use Prim.Native.Nat.{ℕ, suc, ◌-◌, ◌<◌}
use mathlib.Core.Path.{◌≡◌, sym, ap, ◌∙◌}
use mathlib.Core.List.{List, [], ◌∷◌, ◌++◌}
use native.Mathlib.Numerals.{add-one}
use Rattle.answer.specs.Outcome.{refused, ok, on, in_page, marked}
use Rattle.answer.specs.Rule.{passed}
use Rattle.answer.specs.declared.Refusal.{Refusal}
use Rattle.answer.proofs.Rules.{passed_ok, passed-refused, passed_on}
use Rattle.frame.specs.declared.cursor.Cursor.{Cursor}
use Rattle.frame.specs.declared.cursor.PageAt.{PageAt}
use Rattle.frame.specs.Next.{page, end, part, next_of}
use Rattle.frame.specs.Frame.{Page, page_of, walk}
use Rattle.frame.proofs.Found.{page-is}
use Rattle.frame.proofs.Walks.{pages-on}
use Rattle.frame.specs.Ahead.{Ahead}
use Rattle.frame.proofs.Ahead.{ahead-page, ahead-end, ahead-fewer}
use Rattle.shape.specs.Outline.{Shape}
use Rattle.page.specs.Contents.{contents_of}
use Rattle.page.specs.Opened.{contents_in}
use Rattle.answer.proofs.Orders.{on_value}
use Rattle.file.specs.File.{pages_of, rest_of}

-- ---- the shapes of pages, by the first

module _ (k : ℕ) (p : Page) (ps : List Page) where
  -- its contents are refused, with its page: so are the pages
  pub pages-refused : (w : Refusal) → in_page k (contents_of p.head p.body) ≡ refused w → pages_of k (p ∷ ps) ≡ refused w
  unfolding pages_of on
  pages-refused w e = rw e

  -- they are read: the rest decides
  pub pages-first : (here : List Shape) → contents_of p.head p.body ≡ ok here
      → pages_of k (p ∷ ps) ≡ on (pages_of (suc k) ps) (λ rest. ok (here ++ rest))
  unfolding pages_of marked on
  pages-first here e = rw e

-- ---- from a cursor on

module _ (s : List ℕ) (c : Cursor) (ps : List Page) (a : Ahead s c ps) where
  -- what is to come
  pub rest-is : rest_of s c ≡ pages_of c.pages ps
  unfolding rest_of
  rest-is = on_value (walk (1025 - c.pages) s c) _ ps a.walked

  -- at the end nothing
  pub rest_end : next_of s c ≡ ok end → (ok tt) ≡ passed (rest_of s c)
  unfolding pages_of
  rest_end e = passed_ok [] (rest-is ∙ ap (pages_of c.pages) (ahead-end s c ps a e))

  module _ (p : PageAt) (e : next_of s c ≡ ok (page p)) where
    -- a page that is refused
    pub rest-refused : (w : Refusal) → contents_in s c.pages p ≡ refused w → refused w ≡ passed (rest_of s c)
    rest-refused w r =
        let k = ahead-page s c ps a p e in
        passed-refused w (rest-is ∙ ap (pages_of c.pages) k.1 ∙ pages-refused c.pages (page_of s p) k.0 w r)

    -- a page that is read: what is left decides
    pub rest-page : (here : List Shape) → contents_of p.head (part s p.body p.len) ≡ ok here → passed (rest_of s c) ≡ passed (rest_of s p.next)
    unfolding rest_of
    rest-page here h =
        let k = ahead-page s c ps a p e in
        let n : suc c.pages ≡ p.next.pages = sym (pages-on s c a.within p (page-is s c p e) ∙ add-one c.pages) in
        ap passed
        (rest-is ∙ ap (pages_of c.pages) k.1 ∙ pages-first c.pages (page_of s p) k.0 here h)
        ∙ passed_on (pages_of (suc c.pages) k.0) (λ rest. here ++ rest)
        ∙ ap passed (ap (λ (m : ℕ). pages_of m k.0) n ∙ sym (on_value (walk (1025 - p.next.pages) s p.next) _ k.0 k.2.walked))

-- ---- the walk over the pages, as its loop keeps it

pub record Going (s : List ℕ) (from c : Cursor) : Type 0 where
  pub ahead : (ps : List Page) × Ahead s c ps
  pub same : passed (rest_of s from) ≡ passed (rest_of s c)

module _ (s : List ℕ) (from c : Cursor) (g : Going s from c) where
  -- the end
  pub going_end : next_of s c ≡ ok end → (ok tt) ≡ passed (rest_of s from)
  going_end e = rest_end s c g.ahead.0 g.ahead.1 e ∙ sym g.same

  module _ (p : PageAt) (e : next_of s c ≡ ok (page p)) where
    pub going-refused : (w : Refusal) → contents_in s c.pages p ≡ refused w → refused w ≡ passed (rest_of s from)
    going-refused w r = rest-refused s c g.ahead.0 g.ahead.1 p e w r ∙ sym g.same

    pub going_on : (here : List Shape) → contents_of p.head (part s p.body p.len) ≡ ok here → Going s from p.next
    going_on here h =
        let k = ahead-page s c g.ahead.0 g.ahead.1 p e in
        record { ahead = (k.0, k.2); same = g.same ∙ rest-page s c g.ahead.0 g.ahead.1 p e here h }

    pub going-fewer : 1025 - p.next.pages < 1025 - c.pages
    going-fewer = ahead-fewer s c g.ahead.0 g.ahead.1 p e
