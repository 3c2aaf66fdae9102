-- A page of a file that was opened into a scratch that serves every page: for inner walks; no service speaks of it. Assumes nothing.
use Rattle.std.specs.Prelude.{ℕ, ◌≡◌, List, length, take}
use Rattle.answer.specs.Limits.{vertex_limit, most_page_shapes}
use Rattle.answer.specs.Outcome.{Out, ok, on, in_page}
use Rattle.frame.specs.declared.cursor.Cursor.{Cursor}
use Rattle.frame.specs.declared.cursor.PageAt.{PageAt}
use Rattle.frame.specs.Next.{page, part, next_of}
use Rattle.shape.specs.Outline.{Shape}
use Rattle.page.specs.Contents.{contents_of}
use Rattle.page.specs.declared.scratch.Scratch.{Scratch}
use Rattle.page.specs.Loaded.{Loaded}

-- four rooms for a whole page: room for the most shapes, parts and vertices that a page has, as a scratch has it
pub record Rooms (counts lens xs ys : List ℕ) : Type 0 where
  pub for_counts : length counts ≡ most_page_shapes
  pub for_lens : length lens ≡ vertex_limit
  pub for_xs : length xs ≡ vertex_limit
  pub for_ys : length ys ≡ vertex_limit

-- the contents of a page of the file s, which is page k; a refusal has that page
abbrev pub contents_in : List ℕ → ℕ → PageAt → Out (List Shape)
contents_in s k p = in_page k (contents_of p.head (part s p.body p.len))

-- the page p of the file s stands in the start of each array of the scratch
abbrev pub InScratch : List ℕ → PageAt → Scratch → Type 0
InScratch s p r = Loaded p.head (part s p.body p.len) (take p.head.g r.counts) (take p.head.p r.lens) (take p.head.v r.xs) (take p.head.v r.ys)

-- the contract: the page that stands at the cursor, or the refusal of its contents; and where these pass, the scratch holds them
pub record Opens (s : List ℕ) (c : Cursor) (says : Out PageAt) (r : Scratch) : Type 0 where
  pub said : (p : PageAt) → next_of s c ≡ ok (page p) → says ≡ on (contents_in s c.pages p) (λ here. ok p)
  pub lists : (p : PageAt) → says ≡ ok p → (next_of s c ≡ ok (page p)) × InScratch s p r
