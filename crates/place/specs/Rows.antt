-- The rows for a list of places, in any order and with repeats: "frame, 17, 2". The pages' contents are not judged. Assumes nothing.
use Rattle.std.specs.Prelude.{ℕ, ◌&&◌, List, [], ◌∷◌, map, length, leb}
use Rattle.std.specs.Borrow.{Bor, MutBor}
use Rattle.answer.specs.Table as table
use Rattle.answer.specs.Refusal.{because}
use Rattle.answer.specs.Outcome.{Out, ok, need, on}
use Rattle.frame.specs.Frame.{Page, frame_of}
use Rattle.place.specs.declared.row.Row.{Row}
use Rattle.place.specs.Seek.{Seat, seek_in, seat_of}
use Rattle.place.specs.Row.{row_of}

-- the row of a seat
abbrev pub seat_row : Seat → Row
seat_row t = row_of t.held.head t.held.body t.index

-- the row at a place of a file
unfoldable pub row_in : List ℕ → ℕ → Out Row
row_in s place = on (seat_of s place) (λ t. ok (seat_row t))

-- the rows at places among pages, each sought from the first page
unfoldable pub rows_at : List Page → List ℕ → Out (List Row)
rows_at ps [] = ok []
rows_at ps (n ∷ ns) =
    on (seek_in 0 n ps) (λ t.
    on (rows_at ps ns) (λ rs.
    ok (seat_row t ∷ rs)))

-- the rows at places of a file: frame, 17
unfoldable pub rows_in : List ℕ → List ℕ → Out (List Row)
rows_in s places = on (frame_of s) (λ f. rows_at f.pages places)

-- with so much room for registers and for types: 2 comes last
unfoldable pub rows_of : List ℕ → List ℕ → ℕ → ℕ → Out (List Row)
rows_of s places registers types =
    on (rows_in s places) (λ rs.
    need (leb (length places) registers && leb (length places) types) (because table.room) (ok rs))

-- the same, by the slices: the file, the places, and the two rooms
abbrev pub rows_within : Bor (List ℕ) → Bor (List ℕ) → MutBor (List ℕ) → MutBor (List ℕ) → Out (List Row)
rows_within s places registers types = rows_of s.now places.now (length registers.now) (length types.now)

-- their registers
unfoldable pub registers_from : Out (List Row) → Out (List ℕ)
registers_from o = on o (λ rs. ok (map (λ (r : Row). r.register) rs))

-- and their types
unfoldable pub types_from : Out (List Row) → Out (List ℕ)
types_from o = on o (λ rs. ok (map (λ (r : Row). r.kind) rs))
