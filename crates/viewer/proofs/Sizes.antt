-- A shape that is fetched has no more vertices than a page may have. Assumes nothing.
use Prim.Native.Nat.{ℕ, suc, ◌-◌, ◌≤◌, ◌<◌}
use mathlib.Core.Path.{◌≡◌, refl, sym, ap, ◌∙◌, subst}
use mathlib.Core.Bool.{Bool, true, false}
use mathlib.Core.List.{List, [], ◌∷◌}
use native.Mathlib.Omega.{arith}
use lib.Dec.{ltb}
use lib.ListN.{length, drop, length-take, length-drop}
use borrow.Author.Tests.{ltb-true, ltb-false}
use Rattle.answer.specs.Refusal.{on_page}
use Rattle.answer.specs.Outcome.{ok, in_page}
use Rattle.answer.proofs.Outcomes.{never, ok-inj, on-ok, marked-ok}
use Rattle.shape.specs.Outline.{Shape}
use Rattle.frame.specs.declared.cursor.Cursor.{Cursor}
use Rattle.frame.specs.declared.cursor.PageAt.{PageAt}
use Rattle.frame.specs.Next.{part}
use Rattle.frame.specs.Frame.{Page, frame_of}
use Rattle.frame.proofs.Heads.{head-is, head-limits}
use Rattle.frame.proofs.Found.{page-is}
use Rattle.frame.specs.Ahead.{Ahead}
use Rattle.frame.proofs.Ahead.{ahead-start, ahead-some}
use Rattle.page.specs.Contents.{counts_of, lens_of, contents_of}
use Rattle.page.proofs.Vertices.{vertices-long}
use Rattle.page.proofs.Contained.{contents-contained}
use Rattle.place.specs.declared.row.Row.{Row}
use Rattle.place.specs.declared.span.Span.{Span}
use Rattle.place.specs.Seek.{Seat, seek_in, seat_of}
use Rattle.place.specs.Row.{row_of}
use Rattle.place.specs.Span.{span_of, shape_from}
use Rattle.place.specs.Nth.{shape_at}
use Rattle.fetch.specs.Fetch.{shape_of, shape_in}
use Rattle.place.proofs.Seeking.{seek-none, seek-here, seek-on, seek-inside}
use Rattle.fetch.proofs.Opens.{listed-shape}

-- the first of the pages from a cursor on
page-few : (s : List ℕ) (c : Cursor) (q : Page) (qs : List Page) → Ahead s c (q ∷ qs) → q.head.v ≤ 2048
page-few s c q qs a =
    let k = ahead-some s c q qs a in
    let p : PageAt = k.0 in
    let b : List ℕ = part s p.body p.len in
    let h = (head-limits c.edition b p.head (head-is c.edition b p.head (page-is s c p k.1).headed)).vertices in
    subst (λ (x : Page). x.head.v ≤ 2048) k.2 h

-- the page of a seat among them
seat-few : (ps : List Page) (s : List ℕ) (c : Cursor) (k n : ℕ) (t : Seat) → Ahead s c ps → seek_in k n ps ≡ ok t → t.held.head.v ≤ 2048
seat-few [] s c k n t a e = absurd (never (sym (seek-none k n) ∙ e))
seat-few (q ∷ qs) s c k n t a e =
    let y = ahead-some s c q qs a in
    go (ltb n q.head.g) refl (λ l. seat-few qs s y.0.next (suc k) (n - q.head.g) t y.3 (sym (seek-on k n q qs l) ∙ e))
  where
    go : (b : Bool) → ltb n q.head.g ≡ b → (q.head.g ≤ n → t.held.head.v ≤ 2048) → t.held.head.v ≤ 2048
    go true z r = subst (λ (x : Seat). x.held.head.v ≤ 2048) (ok-inj (sym (seek-here k n q qs (ltb-true n q.head.g z)) ∙ e)) (page-few s c q qs a)
    go false z r = r (ltb-false n q.head.g z)

-- a shape cut from a page's lists
cut-few : (r : Row) (p : Span) (lens xs ys : List ℕ) → length (shape_from r p lens xs ys).outline.xs ≤ length xs
unfolding shape_from
cut-few r p lens xs ys =
    let t = length-take (p.vertex_end - p.vertex) (drop p.vertex xs) in
    let d = length-drop p.vertex xs in
    omega arith

-- a seat's shape
held-few : (t : Seat) (sh : Shape) → t.index < t.held.head.g → shape_of t ≡ ok sh → length sh.outline.xs ≤ t.held.head.v
unfolding shape_of
held-few t sh l e =
    let h = t.held.head in
    let b = t.held.body in
    let a = on-ok (in_page t.page (contents_of h b)) _ sh e in
    let c = contents-contained h b a.0 (marked-ok (on_page t.page) (contents_of h b) a.0 a.1) in
    let z = ok-inj (sym (listed-shape h b c.xs c.ys t.index c.parts l) ∙ ap (shape_at t.index) c.shapes ∙ a.2) in
    let m = cut-few (row_of h b t.index) (span_of (counts_of h b) (lens_of h b) t.index) (lens_of h b) c.xs c.ys in
    let v = (vertices-long h b c.xs c.ys c.vertices).0 in
    subst (λ (x : Shape). length x.outline.xs ≤ h.v) z (omega (arith, m, v))

pub shape-few : (s : List ℕ) (place : ℕ) (sh : Shape) → shape_in s place ≡ ok sh → length sh.outline.xs ≤ 2048
unfolding shape_in seat_of
shape-few s place sh e =
    let x = on-ok (seat_of s place) shape_of sh e in
    let t : Seat = x.0 in
    let f = on-ok (frame_of s) _ t x.1 in
    let k = ahead-start s f.0 f.1 in
    let a = held-few t sh (seek-inside 0 place f.0.pages t f.2) x.2 in
    let b = seat-few f.0.pages s k.0 0 place t k.3 f.2 in
    omega (arith, a, b)
