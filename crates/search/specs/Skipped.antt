-- Pages that the query does not meet, passed by from one cursor to another. For inner walks; no service speaks of it. Assumes nothing.
use Rattle.std.specs.Prelude.{ℕ, ◌≤◌, ◌≡◌, true, List}
use Rattle.answer.specs.Outcome.{ok}
use Rattle.extent.specs.Boxes.{patterns}
use Rattle.query.specs.declared.ask.Ask.{Ask}
use Rattle.query.specs.Ask.{opens}
use Rattle.frame.specs.declared.cursor.Cursor.{Cursor}
use Rattle.frame.specs.declared.cursor.PageAt.{PageAt}
use Rattle.frame.specs.Next.{page, next_of}
use Rattle.frame.specs.Frame.{Page}
use Rattle.frame.specs.Ahead.{Ahead}
use Rattle.search.specs.Search.{met_of}

-- what is to come from d on has the hits of what is to come from c on
pub record Skipping (a : Ask) (s : List ℕ) (c d : Cursor) : Type 0 where
  pub coming : List Page
  pub left : List Page
  pub from_c : Ahead s c coming
  pub from_d : Ahead s d left
  pub same : met_of a c.pages c.shapes coming ≡ met_of a d.pages d.shapes left
  pub onward : c.pages ≤ d.pages
  pub further : c.shapes ≤ d.shapes

-- and if a page stands at d, it is opened
pub record Skips (a : Ask) (s : List ℕ) (c d : Cursor) : Type 0 where
  pub skipping : Skipping a s c d
  pub opened : (p : PageAt) → next_of s d ≡ ok (page p) → opens a p.head.v (patterns p.head.stored) ≡ true
