-- What is still to come from a cursor on, in a file whose frame is sound: what a second walk over its pages goes by. For inner walks; no service
-- speaks of it. Assumes nothing.
use Rattle.std.specs.Prelude.{ℕ, suc, ◌*◌, ◌-◌, ◌≤◌, ◌≡◌, List}
use Rattle.answer.specs.Limits.{most_pages, most_page_shapes}
use Rattle.answer.specs.Outcome.{ok}
use Rattle.frame.specs.declared.cursor.Cursor.{Cursor}
use Rattle.frame.specs.Frame.{Page, Frame, walk, frame_of}

-- a cursor of the walk: at most 1,024 pages, of at most 256 shapes each, lie before it
pub record Within (c : Cursor) : Type 0 where
  pub pages : c.pages ≤ most_pages
  pub shapes : c.shapes ≤ most_page_shapes * c.pages

-- from cursor c on come the pages ps, and then the end
pub record Ahead (s : List ℕ) (c : Cursor) (ps : List Page) : Type 0 where
  pub within : Within c
  pub walked : walk (suc most_pages - c.pages) s c ≡ ok ps

-- c is the cursor after the first block of a file whose frame is sound
pub record Begun (s : List ℕ) (c : Cursor) : Type 0 where
  pub frame : Frame
  pub framed : frame_of s ≡ ok frame
  pub no_page : c.pages ≡ 0
  pub no_shape : c.shapes ≡ 0
  pub ahead : Ahead s c frame.pages
