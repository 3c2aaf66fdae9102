-- Where a place lies among the pages of a file: "A shape's place is its position in the file, from 0", and 17 is "no shape at that place". Assumes
-- nothing.
use Rattle.std.specs.Prelude.{ℕ, suc, ◌-◌, cond, List, [], ◌∷◌, ltb}
use Rattle.answer.specs.Table as table
use Rattle.answer.specs.Refusal.{because}
use Rattle.answer.specs.Outcome.{Out, refused, ok, on}
use Rattle.frame.specs.Frame.{Page, page_of, frame_of}
use Rattle.place.specs.declared.seek.SeatAt.{SeatAt}

-- where a shape sits: the page's number, the shape's index in the page, and the page
pub record Seat : Type 0 where
  pub page : ℕ
  pub index : ℕ
  pub held : Page

-- the seat of the shape that is n places behind the first one of these pages, the first of which is page k
unfoldable pub seek_in : ℕ → ℕ → List Page → Out Seat
seek_in k n [] = refused (because table.place)
seek_in k n (p ∷ ps) = cond (ltb n p.head.g) (ok (record { page = k; index = n; held = p })) (seek_in (suc k) (n - p.head.g) ps)

-- the seat of a place in a file: frame, 17
unfoldable pub seat_of : List ℕ → ℕ → Out Seat
seat_of s place = on (frame_of s) (λ f. seek_in 0 place f.pages)

-- the seat that the code found in the file s
abbrev pub seat_at : List ℕ → SeatAt → Seat
seat_at s t = record { page = t.at.pages; index = t.index; held = page_of s t.page }

-- what the code's answer says
unfoldable pub said_sought : List ℕ → Out SeatAt → Out Seat
said_sought s (ok t) = ok (seat_at s t)
said_sought s (refused w) = refused w
