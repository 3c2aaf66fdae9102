-- What fetch and the rows give of a file: where 17 comes, what they give of a file that the full check accepts, and that a row is that of the shape.
-- Assumes nothing.
use mathlib.Core.Path.{◌≡◌, refl, sym, ap, ◌∙◌}
use mathlib.Core.List.{List}
use Prim.Native.Nat.{ℕ, ◌≤◌, ◌<◌}
use lib.ListN.{length, get_or}
use Rattle.answer.specs.Table as table
use Rattle.answer.specs.Refusal.{because, on_page}
use Rattle.answer.specs.Outcome.{Out, refused, ok, on, in_page}
use Rattle.answer.proofs.Outcomes.{ok-inj, on-ok, marked-ok}
use Rattle.shape.specs.Outline.{Shape}
use Rattle.frame.specs.Frame.{Frame, frame_of}
use Rattle.frame.specs.Frame as frame
use Rattle.page.specs.Contents.{counts_of, lens_of, contents_of}
use Rattle.answer.proofs.Orders.{on_value}
use Rattle.file.specs.File.{shapes_in}
use Rattle.page.proofs.Contained.{contents-contained}
use Rattle.place.specs.declared.row.Row.{Row}
use Rattle.place.specs.declared.span.Span.{Span}
use Rattle.place.specs.Seek.{Seat, seat_of}
use Rattle.place.specs.Row.{row_of}
use Rattle.place.specs.Span.{span_of, shape_from}
use Rattle.place.specs.Nth.{shape_at}
use Rattle.fetch.specs.Fetch.{shape_of, shape_in, Rooms, in_rooms, fetch_of}
use Rattle.place.specs.Rows.{seat_row, row_in, rows_in}
use Rattle.place.proofs.Seeking.{seek-beyond, seek-within, seek-inside}
use Rattle.place.proofs.Onwards.{seat-sound}
use Rattle.place.proofs.Nth.{nth-none, nth-some}
use Rattle.fetch.proofs.Opens.{place-refused, listed-shape}
use Rattle.fetch.proofs.Fetching.{fetch-nth}
use Rattle.place.proofs.Places.{no_row, rows-framed}

-- ---- 17, whatever stands in the pages: exactly where the frame's pages have not so many shapes

module _ (s : List ℕ) (n : ℕ) (f : Frame) (e : frame_of s ≡ ok f) where
  pub seat-beyond : frame.shapes_of f.pages ≤ n → seat_of s n ≡ refused (because table.place)
  seat-beyond h = seat-sound s n f e ∙ seek-beyond 0 n f.pages h

  pub seat-within : n < frame.shapes_of f.pages → (t : Seat) × (seat_of s n ≡ ok t)
  seat-within h = let t = seek-within 0 n f.pages h in (t.0, seat-sound s n f e ∙ t.1)

  pub fetch-17 : frame.shapes_of f.pages ≤ n → shape_in s n ≡ refused (because table.place)
  fetch-17 h = place-refused s n (because table.place) (seat-beyond h)

-- ---- a file that the full check accepts

module _ (s : List ℕ) (n : ℕ) (ss : List Shape) (e : shapes_in s ≡ ok ss) where
  -- with so much room, the n-th shape
  pub fetch-accepted : (r : Rooms) → fetch_of s n r ≡ on (shape_at n ss) (in_rooms r)
  unfolding fetch_of
  fetch-accepted r = ap (λ (o : Out Shape). on o (in_rooms r)) (fetch-nth s n ss e)

  -- there is one
  pub fetch-within : n < length ss → (sh : Shape) × (shape_in s n ≡ ok sh)
  fetch-within h = let x = nth-some n ss h in (x.0, fetch-nth s n ss e ∙ x.1)

  -- or 17
  pub fetch-beyond : length ss ≤ n → shape_in s n ≡ refused (because table.place)
  fetch-beyond h = fetch-nth s n ss e ∙ nth-none n ss h

-- ---- rows

-- the row that belongs to a shape
abbrev pub row_with : Shape → Row
row_with sh = record { register = sh.register; kind = sh.outline.kind }

row_back : (r : Row) (p : Span) (lens xs ys : List ℕ) → r ≡ row_with (shape_from r p lens xs ys)
unfolding shape_from
row_back r p lens xs ys = refl

-- a seat's row is that of its shape
pub seat-row : (t : Seat) (sh : Shape) → t.index < t.held.head.g → shape_of t ≡ ok sh → seat_row t ≡ row_with sh
unfolding shape_of
seat-row t sh l e =
    let h = t.held.head in
    let b = t.held.body in
    let a = on-ok (in_page t.page (contents_of h b)) _ sh e in
    let c = contents-contained h b a.0 (marked-ok (on_page t.page) (contents_of h b) a.0 a.1) in
    let z = ok-inj (sym (listed-shape h b c.xs c.ys t.index c.parts l) ∙ ap (shape_at t.index) c.shapes ∙ a.2) in
    row_back (row_of h b t.index) (span_of (counts_of h b) (lens_of h b) t.index) (lens_of h b) c.xs c.ys ∙ ap row_with z

module _ (s : List ℕ) (n : ℕ) where
  -- a seat lies in its page
  pub seat-inside : (t : Seat) → seat_of s n ≡ ok t → t.index < t.held.head.g
  unfolding seat_of
  seat-inside t e = let a = on-ok (frame_of s) _ t e in seek-inside 0 n a.0.pages t a.2

  -- where fetch gives a shape, the row is that shape's
  pub row-of-fetch : (sh : Shape) → shape_in s n ≡ ok sh → row_in s n ≡ ok (row_with sh)
  unfolding shape_in row_in
  row-of-fetch sh e =
      let a = on-ok (seat_of s n) shape_of sh e in
      on_value (seat_of s n) _ a.0 a.1 ∙ ap ok (seat-row a.0 sh (seat-inside a.0 a.1) a.2)

-- the rows for a list of places are the rows of one place each
pub rows-one : (s places : List ℕ) (rs : List Row) (i : ℕ) → rows_in s places ≡ ok rs → i < length places → row_in s (get_or places i 0) ≡ ok (get_or rs i no_row)
unfolding row_in
rows-one s places rs i e h =
    let f = rows-framed s places rs e in
    let t = f.2.each i h in
    on_value (seat_of s (get_or places i 0)) _ t.0 (seat-sound s (get_or places i 0) f.0 f.1 ∙ t.1) ∙ ap ok (sym t.2)

-- of a file that the full check accepts, they are those of the shapes at those places
pub rows-accepted : (s places : List ℕ) (rs : List Row) (ss : List Shape) (i : ℕ) (sh : Shape) → shapes_in s ≡ ok ss → rows_in s places ≡ ok rs → i < length places
    → shape_at (get_or places i 0) ss ≡ ok sh → get_or rs i no_row ≡ row_with sh
rows-accepted s places rs ss i sh e r h q =
    ok-inj (sym (rows-one s places rs i r h) ∙ row-of-fetch s (get_or places i 0) sh (fetch-nth s (get_or places i 0) ss e ∙ q))
