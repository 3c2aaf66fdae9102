-- A cursor from which a place may be sought as well as from the first page; what seeking from it gives. Assumes nothing.
use Rattle.std.specs.Prelude.{ℕ, ◌+◌, ◌-◌, ◌≤◌, ◌<◌, ◌≡◌, List}
use Rattle.answer.specs.Outcome.{Out, ok}
use Rattle.frame.specs.declared.cursor.Cursor.{Cursor}
use Rattle.frame.specs.Next.{page, next_of}
use Rattle.frame.specs.Frame.{Page}
use Rattle.frame.specs.Ahead.{Ahead}
use Rattle.place.specs.declared.seek.SeatAt.{SeatAt}
use Rattle.place.specs.Seek.{seek_in, seat_of, said_sought}

-- the pages from the cursor on, and that a place not before it has its seat among them
pub record Onward (s : List ℕ) (c : Cursor) : Type 0 where
  pub pages : List Page
  pub ahead : Ahead s c pages
  pub same : (n : ℕ) → c.shapes ≤ n → seat_of s n ≡ seek_in c.pages (n - c.shapes) pages

-- the page of a seat stands at its cursor, the place lies in it, and from there one may seek on
pub record Seated (s : List ℕ) (place : ℕ) (t : SeatAt) : Type 0 where
  pub onward : Onward s t.at
  pub found : next_of s t.at ≡ ok (page t.page)
  pub within : t.index < t.page.head.g
  pub there : t.at.shapes + t.index ≡ place

-- the contract of seeking: the answer says the place's seat, and a seat is where it says
pub record Seeks (s : List ℕ) (place : ℕ) (says : Out SeatAt) : Type 0 where
  pub said : said_sought s says ≡ seat_of s place
  pub seat : (t : SeatAt) → says ≡ ok t → Seated s place t
