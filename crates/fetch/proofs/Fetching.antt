-- For a file that the full check accepts, fetch is the n-th of its shapes, and 17 comes exactly where there are not so many. Assumes nothing.
use mathlib.Core.Path.{◌≡◌, refl, sym, ap, ◌∙◌}
use mathlib.Core.Bool.{Bool, true, false}
use mathlib.Core.List.{List, [], ◌∷◌, ◌++◌}
use Prim.Native.Nat.{ℕ, suc, ◌-◌}
use native.Mathlib.Omega.{arith}
use borrow.Author.Tests.{ltb-true, ltb-false}
use lib.Dec.{ltb}
use lib.ListN.{length}
use Rattle.answer.specs.Refusal.{on_page}
use Rattle.answer.specs.Outcome.{Out, ok, on, in_page}
use Rattle.answer.proofs.Outcomes.{ok-inj, on-ok, marked-ok}
use Rattle.shape.specs.Outline.{Shape}
use Rattle.frame.specs.Frame.{Page, Frame, frame_of}
use Rattle.page.specs.Contents.{contents_of}
use Rattle.answer.proofs.Orders.{on-refused, on_value}
use Rattle.page.proofs.Contained.{contents-long}
use Rattle.file.specs.File.{pages_of, shapes_in}
use Rattle.place.specs.Seek.{Seat, seek_in}
use Rattle.place.specs.Nth.{shape_at}
use Rattle.fetch.specs.Fetch.{shape_of, shape_in}
use Rattle.place.proofs.Seeking.{seek-none, seek-here, seek-on}
use Rattle.place.proofs.Onwards.{seat-sound}
use Rattle.place.proofs.Nth.{nth-none, nth_left, nth_right}
use Rattle.fetch.proofs.Opens.{seat-contents}

-- the shapes of pages, by the first page
pages-cons : (k : ℕ) (p : Page) (ps : List Page) (ss : List Shape) → pages_of k (p ∷ ps) ≡ ok ss
    → (here rest : List Shape) × (contents_of p.head p.body ≡ ok here) × (pages_of (suc k) ps ≡ ok rest) × (here ++ rest ≡ ss)
unfolding pages_of
pages-cons k p ps ss e =
    let a = on-ok (in_page k (contents_of p.head p.body)) _ ss e in
    let b = on-ok (pages_of (suc k) ps) _ ss a.2 in
    (a.0, b.0, marked-ok (on_page k) (contents_of p.head p.body) a.0 a.1, b.1, ok-inj b.2)

pages-none : (k : ℕ) (ss : List Shape) → pages_of k [] ≡ ok ss → ss ≡ []
unfolding pages_of
pages-none k ss e = sym (ok-inj e)

-- the seat of a place among pages that all pass holds the shape at that place
pub seat-nth : (k n : ℕ) (ps : List Page) (ss : List Shape) → pages_of k ps ≡ ok ss → on (seek_in k n ps) shape_of ≡ shape_at n ss
seat-nth k n [] ss e =
    on-refused (seek_in k n []) shape_of _ (seek-none k n)
    ∙ sym (nth-none n [] (omega arith))
    ∙ ap (shape_at n) (sym (pages-none k ss e))
seat-nth k n (p ∷ ps) ss e = go (ltb n p.head.g) refl (seat-nth (suc k) (n - p.head.g) ps (pages-cons k p ps ss e).1 (pages-cons k p ps ss e).3)
  where
    here : List Shape
    here = (pages-cons k p ps ss e).0

    rest : List Shape
    rest = (pages-cons k p ps ss e).1

    many : length here ≡ p.head.g
    many = contents-long p.head p.body here (pages-cons k p ps ss e).2

    whole : here ++ rest ≡ ss
    whole = (pages-cons k p ps ss e).4

    go : (b : Bool) → ltb n p.head.g ≡ b → on (seek_in (suc k) (n - p.head.g) ps) shape_of ≡ shape_at (n - p.head.g) rest → on (seek_in k n (p ∷ ps)) shape_of ≡ shape_at n ss
    go true q r =
        let t : Seat = record { page = k; index = n; held = p } in
        let l = ltb-true n p.head.g q in
        on_value (seek_in k n (p ∷ ps)) shape_of t (seek-here k n p ps l)
        ∙ seat-contents t here (pages-cons k p ps ss e).2
        ∙ sym (nth_left n here rest (omega (arith, many, l)))
        ∙ ap (shape_at n) whole
    go false q r =
        let l = ltb-false n p.head.g q in
        ap (λ (o : Out Seat). on o shape_of) (seek-on k n p ps l)
        ∙ r
        ∙ ap (λ (m : ℕ). shape_at (n - m) rest) (sym many)
        ∙ sym (nth_right n here rest (omega (arith, many, l)))
        ∙ ap (shape_at n) whole

-- fetch is the n-th shape
pub fetch-nth : (s : List ℕ) (n : ℕ) (ss : List Shape) → shapes_in s ≡ ok ss → shape_in s n ≡ shape_at n ss
unfolding shapes_in shape_in
fetch-nth s n ss e =
    let a = on-ok (frame_of s) _ ss e in
    let f : Frame = a.0 in
    ap (λ (o : Out Seat). on o shape_of) (seat-sound s n f a.1) ∙ seat-nth 0 n f.pages ss a.2
