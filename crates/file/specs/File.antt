-- What a file means: the shapes of its pages, in order. A shape's place is its position among them, from 0. Assumes nothing.
use Rattle.std.specs.Prelude.{ℕ, suc, ◌-◌, List, [], ◌∷◌, ◌++◌}
use Rattle.answer.specs.Limits.{most_pages}
use Rattle.answer.specs.Outcome.{Out, ok, on, in_page}
use Rattle.frame.specs.declared.cursor.Cursor.{Cursor}
use Rattle.frame.specs.Frame.{Page, walk, frame_of}
use Rattle.shape.specs.Outline.{Shape}
use Rattle.page.specs.Contents.{contents_of}

-- the shapes of pages, the first of which is page k: the contents of each page in order, and a refusal has that page
unfoldable pub pages_of : ℕ → List Page → Out (List Shape)
pages_of k [] = ok []
pages_of k (p ∷ ps) =
    on (in_page k (contents_of p.head p.body)) (λ here.
    on (pages_of (suc k) ps) (λ rest.
    ok (here ++ rest)))

-- the shapes from a cursor to the end
unfoldable pub rest_of : List ℕ → Cursor → Out (List Shape)
rest_of s c = on (walk (suc most_pages - c.pages) s c) (pages_of c.pages)

-- a file's shapes: the frame, then each page's contents
unfoldable pub shapes_in : List ℕ → Out (List Shape)
shapes_in s = on (frame_of s) (λ f. pages_of 0 f.pages)
