-- Seeking from a cursor: what the loop keeps from page to page, and a law for each way out of it. Assumes nothing.
use mathlib.Core.Path.{◌≡◌, refl, sym, ap, ap₂, ◌∙◌}
use mathlib.Core.List.{List, [], ◌∷◌}
use Prim.Native.Nat.{ℕ, suc, ◌+◌, ◌-◌, ◌≤◌, ◌<◌}
use native.Mathlib.Numerals.{add-one}
use native.Mathlib.Omega.{arith}
use Rattle.answer.specs.Table as table
use Rattle.answer.specs.Refusal.{because}
use Rattle.answer.specs.declared.Refusal.{Refusal}
use Rattle.answer.specs.Outcome.{refused, ok, Out}
use Rattle.frame.specs.declared.cursor.Cursor.{Cursor}
use Rattle.frame.specs.declared.cursor.PageAt.{PageAt}
use Rattle.frame.specs.Next.{page, end, next_of}
use Rattle.frame.specs.Frame.{Page, Frame, page_of, frame_of}
use Rattle.frame.proofs.Found.{Paged, page-is}
use Rattle.frame.proofs.Walks.{pages-on, shapes-on}
use Rattle.frame.specs.Ahead.{Ahead, Begun}
use Rattle.frame.proofs.Ahead.{ahead-end, ahead-page, ahead-fewer}
use Rattle.answer.proofs.Outcomes.{never, ok-inj}
use Rattle.answer.proofs.Orders.{on-refused, on_value}
use Rattle.place.specs.declared.seek.SeatAt.{SeatAt}
use Rattle.place.specs.Seek.{seek_in, seat_of, seat_at, said_sought}
use Rattle.place.specs.Onward.{Onward, Seated, Seeks}
use Rattle.place.proofs.Seeking.{seek-none, seek-here, seek-on}

-- ---- the seat of a place, by its frame

pub seat-refused : (s : List ℕ) (n : ℕ) (w : Refusal) → frame_of s ≡ refused w → seat_of s n ≡ refused w
unfolding seat_of
seat-refused s n w e = on-refused (frame_of s) _ w e

pub seat-sound : (s : List ℕ) (n : ℕ) (f : Frame) → frame_of s ≡ ok f → seat_of s n ≡ seek_in 0 n f.pages
unfolding seat_of
seat-sound s n f e = on_value (frame_of s) _ f e

-- ---- what is said

pub said-refused : (s : List ℕ) (w : Refusal) → said_sought s (refused w) ≡ refused w
unfolding said_sought
said-refused s w = refl

pub said-seat : (s : List ℕ) (t : SeatAt) → said_sought s (ok t) ≡ ok (seat_at s t)
unfolding said_sought
said-seat s t = refl

-- a refusal has no seat
pub seeks-refused : (s : List ℕ) (place : ℕ) (w : Refusal) → seat_of s place ≡ refused w → Seeks s place (refused w)
seeks-refused s place w e = record {
  said = said-refused s w ∙ sym e;
  seat = λ t q. absurd (never q);
}

module _ (s : List ℕ) (place : ℕ) (r : Out SeatAt) (k : Seeks s place r) where
  pub sought-refused : (w : Refusal) → r ≡ refused w → seat_of s place ≡ refused w
  sought-refused w e = sym k.said ∙ ap (said_sought s) e ∙ said-refused s w

  pub sought-seat : (t : SeatAt) → r ≡ ok t → seat_of s place ≡ ok (seat_at s t)
  sought-seat t e = sym k.said ∙ ap (said_sought s) e ∙ said-seat s t

-- the page of a seat is found in the file
pub seated-page : (s : List ℕ) (place : ℕ) (t : SeatAt) → Seated s place t → Paged s t.at t.page
seated-page s place t d = page-is s t.at t.page d.found

-- ---- from a cursor on

-- from the first page
pub onward-first : (s : List ℕ) (c : Cursor) → Begun s c → Onward s c
onward-first s c b = record {
  pages = b.frame.pages;
  ahead = b.ahead;
  same = λ n h.
      (let i : n ≡ n - c.shapes = omega (arith, b.no_shape) in
      seat-sound s n b.frame b.framed ∙ ap₂ (λ (j l : ℕ). seek_in j l b.frame.pages) (sym b.no_page) i);
}

module _ (s : List ℕ) (place : ℕ) (c : Cursor) (o : Onward s c) (h : c.shapes ≤ place) where
  -- at the end there is no shape at that place
  pub onward-end : next_of s c ≡ ok end → Seeks s place (refused (because table.place))
  onward-end e =
      let z : o.pages ≡ [] = ahead-end s c o.pages o.ahead e in
      seeks-refused s place (because table.place)
      (o.same place h ∙ ap (seek_in c.pages (place - c.shapes)) z ∙ seek-none c.pages (place - c.shapes))

  module _ (p : PageAt) (here : next_of s c ≡ ok (page p)) where
    rest : (qs : List Page) × (o.pages ≡ page_of s p ∷ qs) × Ahead s p.next qs
    rest = ahead-page s c o.pages o.ahead p here

    pub onward-fewer : 1025 - p.next.pages < 1025 - c.pages
    onward-fewer = ahead-fewer s c o.pages o.ahead p here

    shapes : p.next.shapes ≡ c.shapes + p.head.g
    shapes = shapes-on s c o.ahead.within p (page-is s c p here)

    -- the place lies in this page
    pub onward-here : place < p.next.shapes → Seeks s place (ok (record { at = c; page = p; index = place - c.shapes }))
    onward-here l = record { said = said-seat s mine ∙ sym seat; seat = λ t q. placed t q }
      where
        mine : SeatAt
        mine = record { at = c; page = p; index = place - c.shapes }

        seat : seat_of s place ≡ ok (seat_at s mine)
        seat = o.same place h ∙ ap (seek_in c.pages (place - c.shapes)) rest.1 ∙ seek-here c.pages (place - c.shapes) (page_of s p) rest.0 (omega (arith, shapes))

        own : Seated s place mine
        own = record { onward = o; found = here; within = omega (arith, shapes); there = omega arith }

        placed : (t : SeatAt) → ◌≡◌ {A = Out SeatAt} (ok mine) (ok t) → Seated s place t
        placed t q = rw (← ok-inj q) own

    -- or behind it
    pub onward-more : Onward s p.next
    onward-more = record { pages = rest.0; ahead = rest.2; same = λ n b. later n b }
      where
        up : suc c.pages ≡ p.next.pages
        up = sym (pages-on s c o.ahead.within p (page-is s c p here) ∙ add-one c.pages)

        later : (n : ℕ) → p.next.shapes ≤ n → seat_of s n ≡ seek_in p.next.pages (n - p.next.shapes) rest.0
        later n b =
            let d : n - c.shapes - p.head.g ≡ n - p.next.shapes = omega (arith, shapes) in
            o.same n (omega (arith, shapes, b))
            ∙ ap (seek_in c.pages (n - c.shapes)) rest.1
            ∙ seek-on c.pages (n - c.shapes) (page_of s p) rest.0 (omega (arith, shapes, b))
            ∙ ap₂ (λ (i j : ℕ). seek_in i j rest.0) up d
