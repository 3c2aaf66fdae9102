-- Which page number a refusal has: "The page number is, for a frame refusal, the number of page blocks passed before it; for page contents in a file, that
-- page; in every other case 0." Assumes nothing.
use Rattle.std.specs.Prelude.{ℕ, suc, ◌+◌, ◌≤◌, ◌<◌, ◌≡◌, true, List, ◌∷◌, ◌++◌, length, take, drop}
use Rattle.answer.specs.declared.Refusal.{Refusal}
use Rattle.answer.specs.Refusal.{on_page}
use Rattle.answer.specs.Outcome.{Out, refused, ok}
use Rattle.le.specs.Number.{bytes_of}
use Rattle.extent.specs.Boxes.{patterns}
use Rattle.query.specs.declared.ask.Ask.{Ask}
use Rattle.query.specs.Ask.{opens}
use Rattle.shape.specs.Outline.{Shape}
use Rattle.frame.specs.declared.cursor.Cursor.{Cursor}
use Rattle.frame.specs.declared.cursor.PageAt.{PageAt}
use Rattle.frame.specs.Next.{page, first_of, next_of}
use Rattle.frame.specs.Frame.{Page, Frame, frame_of, shapes_of}
use Rattle.frame.specs.Whole.{block_of, page_blocks}
use Rattle.page.specs.Contents.{contents_of}
use Rattle.promises.specs.Refusing.{Refuses}
use Rattle.promises.specs.Numbers as numbers

-- ---- "in every other case 0"

-- whatever refusal an outcome is, its page number is 0
abbrev pub NoPage : {A : Type 0} → Out A → Type 0
NoPage o = Refuses (λ w. w.page ≡ 0) o

-- ---- "for a frame refusal, the number of page blocks passed before it"

-- of the file s exactly k page blocks were passed, each of them sound, and the cursor stands behind them: behind the first block none, and behind
-- each page block one more
pub data Passed (s : List ℕ) : ℕ → Cursor → Type 0 where
  none : {c : Cursor} → first_of s ≡ ok c → Passed s 0 c
  more : {k : ℕ} {c : Cursor} {p : PageAt} → Passed s k c → next_of s c ≡ ok (page p) → Passed s (suc k) p.next

-- the same by the file's bytes alone: the first block, k page blocks, and then what stands from the place at on
pub record BlocksBefore (s : List ℕ) (k at : ℕ) : Type 0 where
  pub pages : List Page
  pub many : length pages ≡ k
  pub whole : s ≡ block_of 1 (bytes_of 2 1) ++ (page_blocks pages ++ drop at s)

-- the block that a frame refusal refuses: the first one, before any page block; or the one that stands behind as many page blocks as the page number says
pub data InFrame (s : List ℕ) (w : Refusal) : Type 0 where
  first : first_of s ≡ refused w → w.page ≡ 0 → InFrame s w
  behind : (c : Cursor) → Passed s w.page c → next_of s c ≡ refused w → InFrame s w

-- ---- "for page contents in a file, that page"

-- page k of these pages, from 0: the one behind k others
pub record IsPage (ps : List Page) (k : ℕ) (p : Page) : Type 0 where
  pub rest : List Page
  pub there : drop k ps ≡ p ∷ rest

-- a page whose contents are sound
pub record Passes (p : Page) : Type 0 where
  pub shapes : List Shape
  pub contents : contents_of p.head p.body ≡ ok shapes

-- each page before page k that a service opens passes
pub record Before (Opens : ℕ → Page → Type 0) (ps : List Page) (k : ℕ) : Type 0 where
  pub passes : (j : ℕ) (p : Page) → j < k → IsPage ps j p → Opens j p → Passes p

-- the page that a refusal of contents refuses: the one with the page number, which the service opens; its contents are refused by the same refusal, which
-- knows no page yet, and the pages opened before it pass
pub record InContents (Opens : ℕ → Page → Type 0) (ps : List Page) (w : Refusal) : Type 0 where
  pub page : Page
  pub numbered : IsPage ps w.page page
  pub opened : Opens w.page page
  pub refusal : contents_of page.head page.body ≡ refused (on_page 0 w)
  pub before : Before Opens ps w.page

-- ---- which pages of the file's pages ps a service opens: p, which is page k

-- the full check opens every page
abbrev pub EveryPage : List Page → ℕ → Page → Type 0
EveryPage ps k p = Unit {0}

-- the search and the count open each page whose box meets the query
abbrev pub MetPages : Ask → List Page → ℕ → Page → Type 0
MetPages a ps k p = opens a p.head.v (patterns p.head.stored) ≡ true

-- fetch opens the page in which its place lies: the shapes before it end at the place or before, and with its own they end behind it
pub record PlacePage (place : ℕ) (ps : List Page) (k : ℕ) (p : Page) : Type 0 where
  pub from : shapes_of (take k ps) ≤ place
  pub to : place < shapes_of (take k ps) + p.head.g

-- the frame alone, and the rows, open none
abbrev pub NoPages : List Page → ℕ → Page → Type 0
NoPages ps k p = ⊥

-- ---- all three

-- the whole sentence, of a service over the file s that opens such pages, and gives these numbers beside those of frame and contents
pub data Paged (s : List ℕ) (Opens : List Page → ℕ → Page → Type 0) (others : List ℕ) (w : Refusal) : Type 0 where
  frame_refusal : numbers.IsBy numbers.frame w → InFrame s w → Paged s Opens others w
  contents_refusal : (f : Frame) → numbers.IsBy numbers.contents w → frame_of s ≡ ok f → InContents (Opens f.pages) f.pages w → Paged s Opens others w
  other_refusal : numbers.IsBy others w → w.page ≡ 0 → Paged s Opens others w

-- whatever refusal an outcome is, its page number is that
abbrev pub HasPage : {A : Type 0} → List ℕ → (List Page → ℕ → Page → Type 0) → List ℕ → Out A → Type 0
HasPage s Opens others o = Refuses (Paged s Opens others) o
