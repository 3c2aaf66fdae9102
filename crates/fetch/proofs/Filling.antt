-- The three rooms: what is left in them by a refusal and by a shape, and one law for each test of the room. Assumes nothing.
use mathlib.Core.Path.{◌≡◌}
use mathlib.Core.List.{List, ◌++◌}
use Prim.Native.Nat.{ℕ, ◌-◌, ◌≤◌, ◌<◌}
use native.Mathlib.Omega.{arith}
use borrow.Author.Tests.{le-leb, lt-leb}
use lib.ListN.{length, take, drop, length-drop}
use lib.Seq.{length-take-le}
use Rattle.answer.specs.Table as table
use Rattle.answer.specs.Refusal.{because}
use Rattle.answer.specs.declared.Refusal.{Refusal}
use Rattle.answer.specs.Outcome.{Out, refused, ok, on, filled}
use Rattle.answer.proofs.Outcomes.{met, unmet}
use Rattle.shape.specs.Outline.{Shape}
use Rattle.place.specs.declared.row.Row.{Row}
use Rattle.place.specs.declared.span.Span.{Span}
use Rattle.place.specs.Span.{shape_from}
use Rattle.fetch.specs.Fetch.{Rooms, rooms_of, roomy, in_rooms, answer_of, list_of, Fetches}

-- a refusal says so and leaves the rooms
pub fetches-refused : {o : Out Shape} {dl dx dy : List ℕ} (w : Refusal) → o ≡ refused w → Fetches o dl dx dy (refused w) dl dx dy
unfolding answer_of list_of filled on
fetches-refused w e = record { answer = rw e; lens_room = rw e; xs_room = rw e; ys_room = rw e }

-- a shape stands at the start of the rooms
pub fetches-shape : {o : Out Shape} {dl dx dy el ex ey : List ℕ} (sh : Shape) (parts vertices : ℕ) → o ≡ ok sh
    → length sh.outline.lens ≡ parts → length sh.outline.xs ≡ vertices
    → el ≡ sh.outline.lens ++ drop (length sh.outline.lens) dl
    → ex ≡ sh.outline.xs ++ drop (length sh.outline.xs) dx
    → ey ≡ sh.outline.ys ++ drop (length sh.outline.ys) dy
    → Fetches o dl dx dy (ok (record { register = sh.register; kind = sh.outline.kind; parts = parts; vertices = vertices })) el ex ey
unfolding answer_of list_of filled on
fetches-shape sh parts vertices e m n l x y = record { answer = rw (e, m, n); lens_room = rw e l; xs_room = rw e x; ys_room = rw e y }

-- ---- the tests

module _ (r : Rooms) (sh : Shape) where
  pub room-lens : r.lens < length sh.outline.lens → in_rooms r sh ≡ refused (because table.room)
  unfolding in_rooms roomy
  room-lens h = unmet (because table.room) (ok sh) (rw (lt-leb (length sh.outline.lens) r.lens h))

  module _ (a : length sh.outline.lens ≤ r.lens) where
    pub room-xs : r.xs < length sh.outline.xs → in_rooms r sh ≡ refused (because table.room)
    unfolding in_rooms roomy
    room-xs h = unmet (because table.room) (ok sh) (rw (le-leb (length sh.outline.lens) r.lens a, lt-leb (length sh.outline.xs) r.xs h))

    module _ (b : length sh.outline.xs ≤ r.xs) where
      pub room-ys : r.ys < length sh.outline.ys → in_rooms r sh ≡ refused (because table.room)
      unfolding in_rooms roomy
      room-ys h =
          unmet (because table.room) (ok sh)
          (rw (le-leb (length sh.outline.lens) r.lens a, le-leb (length sh.outline.xs) r.xs b, lt-leb (length sh.outline.ys) r.ys h))

      pub room-all : length sh.outline.ys ≤ r.ys → in_rooms r sh ≡ ok sh
      unfolding in_rooms roomy
      room-all h =
          met (because table.room) (ok sh)
          (rw (le-leb (length sh.outline.lens) r.lens a, le-leb (length sh.outline.xs) r.xs b, le-leb (length sh.outline.ys) r.ys h))

-- ---- a shape cut from a page's lists

-- a part from m to n of a list that reaches to n
long : (m n : ℕ) (l : List ℕ) → n ≤ length l → length (take (n - m) (drop m l)) ≡ n - m
long m n l h = length-take-le (n - m) (drop m l) (omega (arith, length-drop m l))

module _ (r : Row) (p : Span) (lens xs ys dl dx dy : List ℕ) (fl : p.part_end ≤ length lens) (fx : p.vertex_end ≤ length xs) (same : length ys ≡ length xs) where
  abbrev pub parts : ℕ
  parts = p.part_end - p.part

  abbrev pub vertices : ℕ
  vertices = p.vertex_end - p.vertex

  abbrev pub own : Shape
  own = shape_from r p lens xs ys

  abbrev rooms : Rooms
  rooms = rooms_of dl dx dy

  long-lens : length own.outline.lens ≡ parts
  unfolding shape_from
  long-lens = long p.part p.part_end lens fl

  long-xs : length own.outline.xs ≡ vertices
  unfolding shape_from
  long-xs = long p.vertex p.vertex_end xs fx

  long-ys : length own.outline.ys ≡ vertices
  unfolding shape_from
  long-ys = long p.vertex p.vertex_end ys (omega (arith, fx, same))

  pub put-lens : length dl < parts → Fetches (in_rooms rooms own) dl dx dy (refused (because table.room)) dl dx dy
  put-lens h = fetches-refused (because table.room) (room-lens rooms own (omega (arith, long-lens)))

  module _ (a : parts ≤ length dl) where
    pub put-xs : length dx < vertices → Fetches (in_rooms rooms own) dl dx dy (refused (because table.room)) dl dx dy
    put-xs h = fetches-refused (because table.room) (room-xs rooms own (omega (arith, long-lens)) (omega (arith, long-xs)))

    module _ (b : vertices ≤ length dx) where
      pub put-ys : length dy < vertices → Fetches (in_rooms rooms own) dl dx dy (refused (because table.room)) dl dx dy
      put-ys h = fetches-refused (because table.room) (room-ys rooms own (omega (arith, long-lens)) (omega (arith, long-xs)) (omega (arith, long-ys)))

      pub put_all : (el ex ey : List ℕ) → vertices ≤ length dy
          → el ≡ take parts (drop p.part lens) ++ drop (length (take parts (drop p.part lens))) dl
          → ex ≡ take vertices (drop p.vertex xs) ++ drop (length (take vertices (drop p.vertex xs))) dx
          → ey ≡ take vertices (drop p.vertex ys) ++ drop (length (take vertices (drop p.vertex ys))) dy
          → Fetches (in_rooms rooms own) dl dx dy (ok (record { register = r.register; kind = r.kind; parts = parts; vertices = vertices })) el ex ey
      unfolding shape_from
      put_all el ex ey c l x y =
          let z : in_rooms rooms own ≡ ok own = room-all rooms own (omega (arith, long-lens)) (omega (arith, long-xs)) (omega (arith, long-ys)) in
          fetches-shape own parts vertices z long-lens long-xs l x y
