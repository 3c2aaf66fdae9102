-- The fetching of one shape: "Fetch: frame, 17, contents of its page, 2. Fetch gives register, type, part lengths and patterns. Each call that writes
-- fills the start of its lent room, and the rest stays." Assumes nothing.
use Rattle.std.specs.Prelude.{ℕ, ◌≡◌, Bool, ◌&&◌, List, length, leb}
use Rattle.answer.specs.Table as table
use Rattle.answer.specs.Refusal.{because}
use Rattle.answer.specs.Outcome.{Out, refused, ok, need, on, in_page, filled}
use Rattle.shape.specs.Outline.{Outline, Shape}
use Rattle.page.specs.Contents.{contents_of}
use Rattle.fetch.specs.declared.fetch.Found.{Found}
use Rattle.answer.specs.Lent.{LentMut, came_mut, left}
use Rattle.place.specs.Nth.{shape_at}
use Rattle.place.specs.Seek.{Seat, seat_of}

-- the shape of a seat: the contents of its page, and a refusal has that page
unfoldable pub shape_of : Seat → Out Shape
shape_of t = on (in_page t.page (contents_of t.held.head t.held.body)) (shape_at t.index)

-- the shape at a place of a file: frame, 17, contents of its page
unfoldable pub shape_in : List ℕ → ℕ → Out Shape
shape_in s place = on (seat_of s place) shape_of

-- ---- the three rooms

-- for how many part lengths, x and y there is room
pub record Rooms : Type 0 where
  pub lens : ℕ
  pub xs : ℕ
  pub ys : ℕ

-- the rooms that three lists are
abbrev pub rooms_of : List ℕ → List ℕ → List ℕ → Rooms
rooms_of lens xs ys = record { lens = length lens; xs = length xs; ys = length ys }

-- each of them is large enough
unfoldable pub roomy : Rooms → Outline → Bool
roomy r o = leb (length o.lens) r.lens && leb (length o.xs) r.xs && leb (length o.ys) r.ys

-- the shape, if there is room for it
unfoldable pub in_rooms : Rooms → Shape → Out Shape
in_rooms r sh = need (roomy r sh.outline) (because table.room) (ok sh)

-- fetch, with so much room: 2 comes last
unfoldable pub fetch_of : List ℕ → ℕ → Rooms → Out Shape
fetch_of s place r = on (shape_in s place) (in_rooms r)

-- ---- what the call says and leaves

-- its answer: register, type, how many part lengths and how many vertices it put in the rooms; or the refusal
unfoldable pub answer_of : Out Shape → Out Found
answer_of (refused w) = refused w
answer_of (ok sh) =
    ok (record {
      register = sh.register;
      kind = sh.outline.kind;
      parts = length sh.outline.lens;
      vertices = length sh.outline.xs;
    })

-- one list of the shape
unfoldable pub list_of : (Outline → List ℕ) → Out Shape → Out (List ℕ)
list_of f o = on o (λ sh. ok (f sh.outline))

-- the contract: what it says, and each room as it leaves it, are those of the outcome o
pub record Fetches (o : Out Shape) (lens xs ys : List ℕ) (says : Out Found) (lens-left xs-left ys-left : List ℕ) : Type 0 where
  pub answer : says ≡ answer_of o
  pub lens_room : lens-left ≡ filled (list_of (λ x. x.lens) o) lens
  pub xs_room : xs-left ≡ filled (list_of (λ x. x.xs) o) xs
  pub ys_room : ys-left ≡ filled (list_of (λ x. x.ys) o) ys

-- the contract, by the three lent rooms: o is the outcome with so much room
abbrev pub FetchesIn : (Rooms → Out Shape) → LentMut → LentMut → LentMut → Out Found → Type 0
FetchesIn o lens xs ys says =
    Fetches (o (rooms_of (came_mut lens) (came_mut xs) (came_mut ys))) (came_mut lens) (came_mut xs) (came_mut ys) says (left lens) (left xs) (left ys)
