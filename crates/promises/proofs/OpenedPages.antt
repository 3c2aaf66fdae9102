-- "For page contents in a file, that page": where a service opens pages in order, a refusal of contents has the number of the page that is refused, and the
-- pages opened before it pass. Nothing is assumed.
use Prim.Native.Nat.{ℕ, zero, suc, ◌+◌, ◌-◌, ◌≤◌, ◌<◌}
use mathlib.Core.Path.{◌≡◌, refl, sym, ap, ◌∙◌, subst}
use mathlib.Core.Bool.{Bool, true, false}
use mathlib.Core.List.{List, [], ◌∷◌}
use native.Mathlib.Numerals.{add-one}
use native.Mathlib.Omega.{arith}
use borrow.Author.Tests.{ltb-true, ltb-false}
use lib.Dec.{ltb}
use lib.ListN.{length, take, drop}
use lib.Seq.{drop-nil, drop-drop}
use Rattle.answer.specs.declared.Refusal.{Refusal}
use Rattle.answer.specs.Refusal.{on_page}
use Rattle.answer.specs.Outcome.{refused, ok, in_page}
use Rattle.answer.proofs.Outcomes.{never, ok-inj, on-ok, marked-ok}
use Rattle.extent.specs.Boxes.{patterns}
use Rattle.query.specs.declared.ask.Ask.{Ask}
use Rattle.query.specs.Ask.{opens}
use Rattle.frame.specs.Frame.{Page, shapes_of}
use Rattle.page.specs.Contents.{contents_of}
use Rattle.file.specs.File.{pages_of}
use Rattle.search.specs.Search.{page_hits, met_of}
use Rattle.search.proofs.Opened.{page-open}
use Rattle.place.specs.Seek.{Seat, seek_in}
use Rattle.place.proofs.Seeking.{seek-none, seek-here, seek-on}
use Rattle.promises.specs.Refusing.{Refuses}
use Rattle.promises.specs.Numbers as numbers
use Rattle.promises.specs.Pages.{IsPage, Passes, Before, InContents, EveryPage, MetPages, PlacePage}
use Rattle.promises.proofs.Refusals.{ok-gives, after-gives, on-gives, marked-gives, test-gives, so-gives}
use Rattle.promises.proofs.Numbers.{plain-no-page, contents-give}

-- a refusal with page 0 is what it was before it had a page
bare : (w : Refusal) → w.page ≡ 0 → w ≡ on_page 0 w
bare w z = λ i. record { number = w.number; column = w.column; index = w.index; page = z i }

-- behind the page that is reached stand the others
next-pages : (all : List Page) (k : ℕ) (p : Page) (ps : List Page) → drop k all ≡ p ∷ ps → drop (suc k) all ≡ ps
next-pages all k p ps d = ap (λ (n : ℕ). drop n all) (sym (add-one k)) ∙ sym (drop-drop 1 k all) ∙ ap (drop 1) d

-- ---- the pages opened before

-- none yet
pub before-none : (Opens : ℕ → Page → Type 0) (all : List Page) → Before Opens all 0
before-none Opens all = record { passes = λ j p l. absurd (omega (arith, l)) }

module _ (Opens : ℕ → Page → Type 0) (all : List Page) (k : ℕ) (p : Page) (ps : List Page) (d : drop k all ≡ p ∷ ps) where
  -- page k is this page
  page-one : (q : Page) → IsPage all k q → p ≡ q
  page-one q i = let e : p ∷ ps ≡ q ∷ i.rest = sym d ∙ i.there in cc

  -- and it passes, if it is opened
  before_more : (Opens k p → Passes p) → Before Opens all k → Before Opens all (suc k)
  before_more h b = record { passes = λ j q l i o. go j q l i o (ltb j k) refl }
    where
      last : (q : Page) → IsPage all k q → Opens k q → Passes q
      last q i o = let e = page-one q i in subst Passes e (h (subst (Opens k) (sym e) o))

      go : (j : ℕ) (q : Page) → j < suc k → IsPage all j q → Opens j q → (t : Bool) → ltb j k ≡ t → Passes q
      go j q l i o true e = b.passes j q (ltb-true j k e) i o
      go j q l i o false e =
          let same : j ≡ k = omega (arith, l, ltb-false j k e) in
          last q (subst (λ (n : ℕ). IsPage all n q) same i) (subst (λ (n : ℕ). Opens n q) same o)

  -- the contents of a page that is opened
  pub here-refused : Opens k p → Before Opens all k → Refuses (InContents Opens all) (in_page k (contents_of p.head p.body))
  here-refused o b =
      marked-gives _ (on_page k) _
      (so-gives _ _ (contents_of p.head p.body)
      (λ w e z. record {
        page = p;
        numbered = record { rest = ps; there = d };
        opened = o;
        refusal = e ∙ ap refused (bare w z);
        before = b;
      })
      (plain-no-page numbers.contents _ (contents-give p.head p.body)))

-- ---- every page in order

pub pages-refused : (all ps : List Page) (k : ℕ) → drop k all ≡ ps → Before (EveryPage all) all k → Refuses (InContents (EveryPage all) all) (pages_of k ps)
unfolding pages_of
pages-refused all [] k d b = ok-gives _ _
pages-refused all (p ∷ ps) k d b =
    after-gives _ _ _ (here-refused (EveryPage all) all k p ps d tt b) (λ here e.
    on-gives _ _ _
    (pages-refused all ps (suc k) (next-pages all k p ps d)
    (before_more (EveryPage all) all k p ps d (λ o. record { shapes = here; contents = marked-ok (on_page k) _ here e }) b))
    (λ rest. ok-gives _ _))

-- ---- each page whose box meets the query, in order

module _ (a : Ask) (all : List Page) where
  page-refused : (k n : ℕ) (p : Page) (ps : List Page) → drop k all ≡ p ∷ ps → Before (MetPages a all) all k
      → Refuses (InContents (MetPages a all) all) (page_hits a k n p)
  unfolding page_hits
  page-refused k n p ps d b =
      test-gives _ (opens a p.head.v (patterns p.head.stored)) _ _
      (λ o. on-gives _ _ _ (here-refused (MetPages a all) all k p ps d o b) (λ here. ok-gives _ _))
      (λ o. ok-gives _ _)

  -- a page that is opened and has its hits passes
  page-passes : (k n : ℕ) (p : Page) (here : List ℕ) → page_hits a k n p ≡ ok here → MetPages a all k p → Passes p
  page-passes k n p here e o =
      let t = on-ok (in_page k (contents_of p.head p.body)) _ here (sym (page-open a k n p o) ∙ e) in
      record { shapes = t.0; contents = marked-ok (on_page k) _ t.0 t.1 }

  pub met-refused : (ps : List Page) (k n : ℕ) → drop k all ≡ ps → Before (MetPages a all) all k → Refuses (InContents (MetPages a all) all) (met_of a k n ps)
  unfolding met_of
  met-refused [] k n d b = ok-gives _ _
  met-refused (p ∷ ps) k n d b =
      after-gives _ _ _ (page-refused k n p ps d b) (λ here e.
      on-gives _ _ _
      (met-refused ps (suc k) (n + p.head.g) (next-pages all k p ps d)
      (before_more (MetPages a all) all k p ps d (page-passes k n p here e) b))
      (λ rest. ok-gives _ _))

-- ---- the page of a place

-- the shapes of one page more
shapes-next : (all : List Page) (k : ℕ) (p : Page) (ps : List Page) → drop k all ≡ p ∷ ps → shapes_of (take (suc k) all) ≡ shapes_of (take k all) + p.head.g
unfolding shapes_of
shapes-next [] k p ps d = absurd (let z : ◌≡◌ {A = ℕ} 0 (suc (length ps)) = ap length (sym (drop-nil k) ∙ d) in omega arith)
shapes-next (q ∷ all) zero p ps d = let e : q ≡ p = cc in ap (λ (x : Page). x.head.g + 0) e ∙ omega arith
shapes-next (q ∷ all) (suc k) p ps d = let r = shapes-next all k p ps d in omega (arith, r)

-- and more pages have no fewer
shapes-rise : (j k : ℕ) (all : List Page) → j ≤ k → shapes_of (take j all) ≤ shapes_of (take k all)
unfolding shapes_of
shapes-rise zero k all h = omega arith
shapes-rise (suc j) zero all h = absurd (omega (arith, h))
shapes-rise (suc j) (suc k) [] h = omega arith
shapes-rise (suc j) (suc k) (q ∷ all) h = let r = shapes-rise j k all (omega (arith, h)) in omega (arith, r)

module _ (all : List Page) where
  -- sought from page k on, a seat has the number of its page, and the place lies in it
  seek-on-page : (ps : List Page) (k n : ℕ) (t : Seat) → drop k all ≡ ps → seek_in k n ps ≡ ok t
      → IsPage all t.page t.held × PlacePage (shapes_of (take k all) + n) all t.page t.held
  seek-on-page [] k n t d e = absurd (never (sym (seek-none k n) ∙ e))
  seek-on-page (p ∷ ps) k n t d e =
      go (ltb n p.head.g) refl (λ f. seek-on-page ps (suc k) (n - p.head.g) t (next-pages all k p ps d) f)
    where
      Lies : ℕ → Type 0
      Lies m = IsPage all t.page t.held × PlacePage m all t.page t.held

      go : (b : Bool) → ltb n p.head.g ≡ b → (seek_in (suc k) (n - p.head.g) ps ≡ ok t → Lies (shapes_of (take (suc k) all) + (n - p.head.g)))
          → Lies (shapes_of (take k all) + n)
      go true q r =
          let l = ltb-true n p.head.g q in
          subst (λ (x : Seat). IsPage all x.page x.held × PlacePage (shapes_of (take k all) + n) all x.page x.held)
          (ok-inj (sym (seek-here k n p ps l) ∙ e))
          (record { rest = ps; there = d }, record { from = omega arith; to = omega (arith, l) })
      go false q r =
          let l = ltb-false n p.head.g q in
          let m : shapes_of (take (suc k) all) + (n - p.head.g) ≡ shapes_of (take k all) + n = omega (arith, l, shapes-next all k p ps d) in
          subst Lies m (r (sym (seek-on k n p ps l) ∙ e))

  -- and so from the first page on
  pub seek-page : (n : ℕ) (t : Seat) → seek_in 0 n all ≡ ok t → IsPage all t.page t.held × PlacePage n all t.page t.held
  unfolding shapes_of
  seek-page n t e =
      let z : shapes_of (take 0 all) + n ≡ n = omega arith in
      subst (λ (m : ℕ). IsPage all t.page t.held × PlacePage m all t.page t.held) z (seek-on-page all 0 n t refl e)

  -- a place lies in one page, so none is opened before it
  pub none_before : (n k : ℕ) (p : Page) → PlacePage n all k p → Before (PlacePage n all) all k
  none_before n k p o =
      record { passes = λ j q l i u. absurd (omega (arith, u.to, o.from, shapes-next all j q i.rest i.there, shapes-rise (suc j) k all (omega (arith, l)))) }
