-- Laws of seeking a place among pages: here, further on, not at all; from a later page on; and that 17 comes exactly where there are too few shapes.
-- Assumes nothing.
use mathlib.Core.Path.{◌≡◌, refl, sym, ap₂, ◌∙◌}
use mathlib.Core.Bool.{Bool, true, false}
use mathlib.Core.List.{List, [], ◌∷◌, ◌++◌}
use Prim.Native.Nat.{ℕ, suc, ◌+◌, ◌-◌, ◌≤◌, ◌<◌}
use native.Mathlib.Omega.{arith}
use borrow.Author.Tests.{ltb-true, ltb-false, lt-ltb, le-ltb}
use lib.Dec.{ltb}
use lib.ListN.{length}
use Rattle.answer.specs.Table as table
use Rattle.answer.specs.Refusal.{because}
use Rattle.answer.specs.Outcome.{refused, ok}
use Rattle.answer.proofs.Outcomes.{never, ok-inj}
use Rattle.frame.specs.Frame.{Page, shapes_of}
use Rattle.place.specs.Seek.{Seat, seek_in}

pub seek-none : (k n : ℕ) → seek_in k n [] ≡ refused (because table.place)
unfolding seek_in
seek-none k n = refl

module _ (k n : ℕ) (p : Page) (ps : List Page) where
  -- it lies in the first page
  pub seek-here : n < p.head.g → seek_in k n (p ∷ ps) ≡ ok (record { page = k; index = n; held = p })
  unfolding seek_in
  seek-here h = rw (lt-ltb n p.head.g h)

  -- or behind it
  pub seek-on : p.head.g ≤ n → seek_in k n (p ∷ ps) ≡ seek_in (suc k) (n - p.head.g) ps
  unfolding seek_in
  seek-on h = rw (le-ltb n p.head.g h)

-- behind pages that have at most n shapes, it is sought from the next one on
pub seek-rest : (k n : ℕ) (qs ps : List Page) → shapes_of qs ≤ n → seek_in k n (qs ++ ps) ≡ seek_in (k + length qs) (n - shapes_of qs) ps
unfolding shapes_of
seek-rest k n [] ps h =
    let e : k ≡ k + 0 = omega arith in
    let f : n ≡ n - 0 = omega arith in
    ap₂ (λ (i j : ℕ). seek_in i j ps) e f
seek-rest k n (q ∷ qs) ps h =
    let e : suc k + length qs ≡ k + suc (length qs) = omega arith in
    let f : n - q.head.g - shapes_of qs ≡ n - (q.head.g + shapes_of qs) = omega arith in
    seek-on k n q (qs ++ ps) (omega arith) ∙ seek-rest (suc k) (n - q.head.g) qs ps (omega arith) ∙ ap₂ (λ (i j : ℕ). seek_in i j ps) e f

-- 17, where there are too few shapes
pub seek-beyond : (k n : ℕ) (ps : List Page) → shapes_of ps ≤ n → seek_in k n ps ≡ refused (because table.place)
unfolding shapes_of
seek-beyond k n [] h = seek-none k n
seek-beyond k n (p ∷ ps) h = seek-on k n p ps (omega arith) ∙ seek-beyond (suc k) (n - p.head.g) ps (omega arith)

-- and else a seat
pub seek-within : (k n : ℕ) (ps : List Page) → n < shapes_of ps → (t : Seat) × (seek_in k n ps ≡ ok t)
unfolding shapes_of
seek-within k n [] h = absurd (omega arith)
seek-within k n (p ∷ ps) h = go (ltb n p.head.g) refl (λ l. seek-within (suc k) (n - p.head.g) ps (omega arith))
  where
    go : (b : Bool) → ltb n p.head.g ≡ b → (p.head.g ≤ n → (t : Seat) × (seek_in (suc k) (n - p.head.g) ps ≡ ok t)) → (t : Seat) × (seek_in k n (p ∷ ps) ≡ ok t)
    go true e r = (record { page = k; index = n; held = p }, seek-here k n p ps (ltb-true n p.head.g e))
    go false e r = let l = ltb-false n p.head.g e in ((r l).0, seek-on k n p ps l ∙ (r l).1)

-- a seat lies in its page
pub seek-inside : (k n : ℕ) (ps : List Page) (t : Seat) → seek_in k n ps ≡ ok t → t.index < t.held.head.g
seek-inside k n [] t e = absurd (never (sym (seek-none k n) ∙ e))
seek-inside k n (p ∷ ps) t e = go (ltb n p.head.g) refl (λ l. seek-inside (suc k) (n - p.head.g) ps t (sym (seek-on k n p ps l) ∙ e))
  where
    go : (b : Bool) → ltb n p.head.g ≡ b → (p.head.g ≤ n → t.index < t.held.head.g) → t.index < t.held.head.g
    go true q r = let l = ltb-true n p.head.g q in rw (← ok-inj (sym (seek-here k n p ps l) ∙ e)) l
    go false q r = r (ltb-false n p.head.g q)
