-- The shape of a seat, by the ways through it: its page is refused, or it is cut from the page's lists; and the order of the service. Assumes nothing.
use mathlib.Core.Path.{◌≡◌, refl, sym, ap, subst, ◌∙◌}
use mathlib.Core.Bool.{true}
use mathlib.Core.List.{List}
use Prim.Native.Nat.{ℕ, ◌≤◌, ◌<◌}
use native.Mathlib.Omega.{arith}
use lib.ListN.{length}
use Rattle.answer.specs.Refusal.{on_page}
use Rattle.answer.specs.declared.Refusal.{Refusal}
use Rattle.answer.specs.Outcome.{Out, refused, ok, on, in_page}
use Rattle.answer.proofs.Outcomes.{ok-inj, marked_refused, marked-value}
use Rattle.le.proofs.Runs.{length-numbers}
use Rattle.types.specs.Parts.{total, parts_hold}
use Rattle.types.proofs.Agreeing.{agree-even}
use Rattle.types.proofs.Passed.{hold-agree, hold-total, agree-counts, parts-at-most}
use Rattle.shape.specs.Outline.{Shape, outlines_of, registered}
use Rattle.frame.specs.declared.head.Head.{Head}
use Rattle.frame.specs.declared.cursor.PageAt.{PageAt}
use Rattle.frame.specs.Next.{page, next_of}
use Rattle.frame.specs.Frame.{page_of}
use Rattle.frame.proofs.Ways.{page-inj}
use Rattle.page.specs.Contents.{registers_of, types_of, counts_of, lens_of, contents_of}
use Rattle.page.specs.Loaded.{Loaded}
use Rattle.answer.proofs.Orders.{on-refused, on_value}
use Rattle.page.proofs.Contained.{counts-long, loaded-ready}
use Rattle.place.specs.declared.row.Row.{Row}
use Rattle.place.specs.declared.span.Span.{Span}
use Rattle.place.specs.declared.seek.SeatAt.{SeatAt}
use Rattle.place.specs.Seek.{Seat, seat_of, seat_at}
use Rattle.place.specs.Row.{row_of}
use Rattle.place.specs.Span.{span_of, shape_from}
use Rattle.place.specs.Nth.{shape_at}
use Rattle.fetch.specs.Fetch.{shape_of, shape_in, Rooms, in_rooms, fetch_of}
use Rattle.place.proofs.Spans.{span-shape}

-- ---- the order of the service

module _ (s : List ℕ) (place : ℕ) where
  -- no seat
  pub place-refused : (w : Refusal) → seat_of s place ≡ refused w → shape_in s place ≡ refused w
  unfolding shape_in
  place-refused w e = on-refused (seat_of s place) _ w e

  -- a seat
  pub place-seat : (t : Seat) → seat_of s place ≡ ok t → shape_in s place ≡ shape_of t
  unfolding shape_in
  place-seat t e = on_value (seat_of s place) _ t e

  pub fetch-refused : (r : Rooms) (w : Refusal) → seat_of s place ≡ refused w → fetch_of s place r ≡ refused w
  unfolding fetch_of
  fetch-refused r w e = on-refused (shape_in s place) _ w (place-refused w e)

  pub fetch-seat : (r : Rooms) (t : Seat) → seat_of s place ≡ ok t → fetch_of s place r ≡ on (shape_of t) (in_rooms r)
  unfolding fetch_of
  fetch-seat r t e = ap (λ (o : Out Shape). on o (in_rooms r)) (place-seat t e)

-- ---- the shape of a seat

module _ (t : Seat) where
  pub seat-refused : (w : Refusal) → contents_of t.held.head t.held.body ≡ refused w → shape_of t ≡ refused (on_page t.page w)
  unfolding shape_of
  seat-refused w e = on-refused (in_page t.page (contents_of t.held.head t.held.body)) _ (on_page t.page w) (marked_refused (on_page t.page) w e)

  pub seat-contents : (here : List Shape) → contents_of t.held.head t.held.body ≡ ok here → shape_of t ≡ shape_at t.index here
  unfolding shape_of
  seat-contents here e = on_value (in_page t.page (contents_of t.held.head t.held.body)) _ here (marked-value (on_page t.page) here e)

-- ---- a page's lists, as rule 11 lets them pass

-- the shape at i
pub listed-shape : (h : Head) (b xs ys : List ℕ) (i : ℕ) → parts_hold (types_of h b) (counts_of h b) (lens_of h b) h.v ≡ true → i < h.g
    → shape_at i (registered (registers_of h b) (outlines_of (types_of h b) (counts_of h b) (lens_of h b) xs ys))
    ≡ ok (shape_from (row_of h b i) (span_of (counts_of h b) (lens_of h b) i) (lens_of h b) xs ys)
unfolding row_of registers_of
listed-shape h b xs ys i q l =
    let r = length-numbers h.layout.each 4 h.g b h.layout.registers in
    let c = counts-long h b in
    let t = agree-even (types_of h b) (counts_of h b) (lens_of h b) (hold-agree (types_of h b) (counts_of h b) (lens_of h b) h.v q) in
    span-shape (registers_of h b) (types_of h b) (counts_of h b) (lens_of h b) xs ys i (omega (arith, r)) (omega (arith, t, c)) (omega (arith, c))

-- ---- a page that was loaded

module _ (h : Head) (b counts lens xs ys : List ℕ) (y : Loaded h b counts lens xs ys) where
  held : parts_hold (types_of h b) (counts_of h b) (lens_of h b) h.v ≡ true
  held = rw (← y.counts_are, ← y.lens_are) y.parts

  -- what the span of a shape counts on
  pub loaded-spans : (i : ℕ) → i < h.g → h.v ≤ 2048 → (i < length counts) × (total counts ≡ length lens) × (length lens ≤ 2048) × (total lens ≤ 2048)
  loaded-spans i l f =
      let a = hold-agree (types_of h b) counts lens h.v y.parts in
      let n : length counts ≡ h.g = ap length y.counts_are ∙ counts-long h b in
      let t = hold-total (types_of h b) counts lens h.v y.parts in
      (omega (arith, n), agree-counts (types_of h b) counts lens a, omega (arith, t, parts-at-most (types_of h b) counts lens a), omega (arith, t))

  -- its vertices are there
  pub loaded-vertices : (total lens ≡ length xs) × (length ys ≡ length xs)
  loaded-vertices =
      let r = loaded-ready h b counts lens xs ys y (types_of h b) refl in
      (hold-total (types_of h b) counts lens (length xs) r.1, r.2)

  -- the shape of a seat in it
  pub loaded-shape : (k i : ℕ) (r : Row) (p : Span) (rooms : Rooms) → i < h.g → r ≡ row_of h b i → p ≡ span_of counts lens i
      → on (shape_of (record { page = k; index = i; held = record { head = h; body = b } })) (in_rooms rooms) ≡ in_rooms rooms (shape_from r p lens xs ys)
  loaded-shape k i r p rooms l er ep =
      let t : Seat = record { page = k; index = i; held = record { head = h; body = b } } in
      let ss = registered (registers_of h b) (outlines_of (types_of h b) counts lens xs ys) in
      let e : shape_at i ss ≡ ok (shape_from r p lens xs ys) = rw (er, ep, y.counts_are, y.lens_are) (listed-shape h b xs ys i held l) in
      on_value (shape_of t) (in_rooms rooms) (shape_from r p lens xs ys) (seat-contents t ss y.shapes ∙ e)

-- a page that was not
pub seat-bad : (t : Seat) (rooms : Rooms) (w : Refusal) → in_page t.page (contents_of t.held.head t.held.body) ≡ refused w
    → on (shape_of t) (in_rooms rooms) ≡ refused w
unfolding shape_of
seat-bad t rooms w e = on-refused (shape_of t) (in_rooms rooms) w (on-refused (in_page t.page (contents_of t.held.head t.held.body)) _ w e)

-- ---- the seat that the code found: its page is the one that is opened

module _ (s : List ℕ) (t : SeatAt) (p : PageAt) where
  same-page : next_of s t.at ≡ ok (page t.page) → next_of s t.at ≡ ok (page p) → t.page ≡ p
  same-page e f = page-inj (ok-inj (sym e ∙ f))

  pub index-within : next_of s t.at ≡ ok (page t.page) → next_of s t.at ≡ ok (page p) → t.index < t.page.head.g → t.index < p.head.g
  index-within e f = subst (λ (x : PageAt). t.index < x.head.g) (same-page e f)

  pub seat-page : (rooms : Rooms) → next_of s t.at ≡ ok (page t.page) → next_of s t.at ≡ ok (page p)
      → on (shape_of (seat_at s t)) (in_rooms rooms) ≡ on (shape_of (record { page = t.at.pages; index = t.index; held = page_of s p })) (in_rooms rooms)
  seat-page rooms e f = ap (λ (x : PageAt). on (shape_of (record { page = t.at.pages; index = t.index; held = page_of s x })) (in_rooms rooms)) (same-page e f)
