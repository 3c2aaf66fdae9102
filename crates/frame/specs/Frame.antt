-- The meaning of a file's frame: its edition and its pages, each a head with its body. Assumes nothing.
use Rattle.std.specs.Prelude.{ℕ, zero, suc, ◌+◌, List, [], ◌∷◌, length}
use Rattle.answer.specs.Limits.{most_pages}
use Rattle.answer.specs.Table.{many}
use Rattle.answer.specs.Refusal.{because, on_page}
use Rattle.answer.specs.Outcome.{Out, refused, ok, on}
use Rattle.frame.specs.declared.head.Head.{Head}
use Rattle.frame.specs.declared.cursor.Cursor.{Cursor}
use Rattle.frame.specs.declared.cursor.PageAt.{PageAt}
use Rattle.frame.specs.declared.walk.Totals.{Totals}
use Rattle.frame.specs.Next.{NextBlock, page, end, part, first_cursor, first_of, next_of}

-- a page: its head and its body
pub record Page : Type 0 where
  pub head : Head
  pub body : List ℕ

-- a frame: the edition and the pages
pub record Frame : Type 0 where
  pub edition : ℕ
  pub pages : List Page

-- the page that was found
abbrev pub page_of : List ℕ → PageAt → Page
page_of s p = record { head = p.head; body = part s p.body p.len }

-- by cases: a page, or the end
abbrev pub page_or_end : {A : Type 0} → NextBlock → (PageAt → A) → A → A
page_or_end (page p) f x = f p
page_or_end end f x = x

-- the pages from a cursor to the end, of at most so many blocks; with 1,025 the first line is never reached, since a step refuses a 1,025th page
unfoldable pub walk : ℕ → List ℕ → Cursor → Out (List Page)
walk zero s c = refused (on_page c.pages (because many))
walk (suc n) s c =
    on (next_of s c) (λ t.
    page_or_end t
    (λ p. on (walk n s p.next) (λ ps. ok (page_of s p ∷ ps)))
    (ok []))

-- a file's frame: the first block, then 1,024 pages at most and the end
unfoldable pub frame_of : List ℕ → Out Frame
frame_of s = on (first_of s) (λ c. on (walk (suc most_pages) s c) (λ ps. ok (record { edition = c.edition; pages = ps })))

-- how many shapes pages have
unfoldable pub shapes_of : List Page → ℕ
shapes_of [] = 0
shapes_of (p ∷ ps) = p.head.g + shapes_of ps

-- how many pages, and how many shapes, from a first cursor on
abbrev pub page_totals : Cursor → List Page → Totals
page_totals c ps = record { pages = length ps; shapes = shapes_of ps; first = c }

-- those of a frame, whose first block takes 8 bytes
abbrev pub totals_of : Frame → Totals
totals_of f = page_totals (first_cursor f.edition) f.pages
