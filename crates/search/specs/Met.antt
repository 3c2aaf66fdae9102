-- What the walk over a file's pages leaves: how many hits, and a bit for each in flags that reach to every place. Assumes nothing.
use Rattle.std.specs.Prelude.{ℕ, ◌+◌, ◌≡◌, List, length}
use Rattle.answer.specs.Outcome.{Out, ok, on}
use Rattle.query.specs.declared.ask.Ask.{Ask}
use Rattle.frame.specs.declared.cursor.Cursor.{Cursor}
use Rattle.frame.specs.declared.cursor.PageAt.{PageAt}
use Rattle.frame.specs.Next.{page, next_of}
use Rattle.frame.specs.Frame.{page_of}
use Rattle.shape.specs.declared.lists.Lists.{Lists}
use Rattle.shape.specs.Outline.{outlines_in}
use Rattle.search.specs.Search.{places_of, opened_hits}
use Rattle.search.specs.Flags.{bits_of, Adds}

-- of the hits o, the first of which may stand at n and the last before to: their number is said, and they are added to the flags
pub record Meets (o : Out (List ℕ)) (n to : ℕ) (says : Out ℕ) (d e : List ℕ) : Type 0 where
  pub said : says ≡ on o (λ l. ok (length l))
  pub flags : (l : List ℕ) → o ≡ ok l → Adds d e n to (bits_of l)

-- of the page that stands at a cursor, once it is opened: its hits, from the first place to the last that its shapes have
abbrev pub PageMeets : Ask → List ℕ → Cursor → Out ℕ → List ℕ → List ℕ → Type 0
PageMeets a s c says d e =
    (p : PageAt) → next_of s c ≡ ok (page p) → Meets (opened_hits a c.pages c.shapes (page_of s p)) c.shapes (c.shapes + p.head.g) says d e

-- of the shapes of a page's lists, the first of which has place n: how many are hit, and that each is added to the flags
abbrev pub Noted : Ask → ℕ → Lists → ℕ → List ℕ → List ℕ → Type 0
Noted a n p r d e =
    let l = places_of a n (outlines_in p) in
    (r ≡ length l) × Adds d e n (n + length p.types.now) (bits_of l)
