-- One shape through words: each answer of the fetch, told. Assumes nothing.
use Prim.Native.Nat.{ℕ, ◌≤◌, ◌<◌}
use mathlib.Core.Path.{◌≡◌, refl, sym, ap, ◌∙◌}
use mathlib.Core.Bool.{Bool, true, false}
use mathlib.Core.List.{List, [], ◌∷◌, ◌++◌}
use native.Mathlib.Omega.{arith}
use lib.ListN.{length, drop}
use borrow.Author.Tests.{le-leb, lt-leb}
use Rattle.answer.specs.Table as table
use Rattle.answer.specs.declared.Refusal.{Refusal}
use Rattle.answer.specs.Refusal.{because}
use Rattle.answer.specs.Outcome.{Out, refused, ok, need, on, filled}
use Rattle.answer.proofs.Outcomes.{never, refused-inj, on-ok}
use Rattle.shape.specs.Outline.{Shape}
use Rattle.answer.proofs.Orders.{on_value}
use Rattle.fetch.specs.declared.fetch.Found.{Found}
use Rattle.fetch.specs.Fetch.{shape_in, Rooms, rooms_of, roomy, in_rooms, fetch_of, answer_of, list_of, Fetches}
use Rattle.viewer.specs.Word.{word_of, Told}
use Rattle.viewer.specs.Fetch.{room_for_shape, fetch_call, vertices, about_words, Shown}
use Rattle.viewer.proofs.Telling.{told-refused, told-ok}

-- the four words of what was found
abbrev pub found : Found → List ℕ
found f = f.register ∷ f.kind ∷ f.parts ∷ f.vertices ∷ []

-- ---- what an answer says of the outcome

said-refused : (o : Out Shape) (w : Refusal) → answer_of o ≡ refused w → o ≡ refused w
unfolding answer_of
said-refused (refused v) w e = cc
said-refused (ok sh) w e = let z : ◌≡◌ {A = ℕ} 0 1 = cc in absurd (omega arith)

said-shape : (o : Out Shape) (f : Found) → answer_of o ≡ ok f → (sh : Shape) × (o ≡ ok sh) × (f.vertices ≡ vertices sh) × (found f ≡ about_words sh)
unfolding answer_of vertices about_words
said-shape (refused w) f e = let z : ◌≡◌ {A = ℕ} 0 1 = cc in absurd (omega arith)
said-shape (ok sh) f e = (sh, refl, cc, cc)

-- ---- no room for four words: what is refused before the room, or 2

abbrev pub bare : Out Shape → Out ℕ
bare o = on o (λ _. refused (because table.room))

-- a test that lets nothing else be refused
need-refused : {A : Type 0} (t : Bool) (w v : Refusal) (a : A) → need t w (ok a) ≡ refused v → w ≡ v
unfolding need
need-refused true w v a e = absurd (never (sym e))
need-refused false w v a e = refused-inj e

same-refused : (o : Out Shape) (r : Rooms) (w : Refusal) → on o (in_rooms r) ≡ refused w → bare o ≡ refused w
unfolding on in_rooms
same-refused (refused v) r w e = ap refused (refused-inj e)
same-refused (ok sh) r w e = ap refused (need-refused (roomy r sh.outline) (because table.room) w sh e)

-- an answer of the fetch, with whatever room
module _ (s : List ℕ) (place : ℕ) (r : Rooms) (y : Out Found) (q : y ≡ answer_of (fetch_of s place r)) where
  pub bare-refused : (w : Refusal) (x : ℕ) → y ≡ refused w → x ≡ word_of (refused w) → x ≡ word_of (bare (shape_in s place))
  unfolding fetch_of
  bare-refused w x e p = p ∙ ap word_of (sym (same-refused (shape_in s place) r w (said-refused (fetch_of s place r) w (sym q ∙ e))))

  pub bare-shape : (f : Found) (x : ℕ) → y ≡ ok f → x ≡ word_of (refused (because table.room)) → x ≡ word_of (bare (shape_in s place))
  unfolding fetch_of
  bare-shape f x e p =
      let z = said-shape (fetch_of s place r) f (sym q ∙ e) in
      let a = on-ok (shape_in s place) (in_rooms r) z.0 z.1 in
      p ∙ ap word_of (sym (on_value (shape_in s place) _ a.0 a.1))

-- ---- the call

shown-refused : {o : Out Shape} {da dl dx dy : List ℕ} (w : Refusal) (x : ℕ) → o ≡ refused w → x ≡ word_of (refused w) → Shown o da dl dx dy x da dl dx dy
unfolding filled list_of on
shown-refused w x e p = record { told = told-refused w x e p; lens_room = rw e; xs_room = rw e; ys_room = rw e }

shown-bare : {da dl dx dy : List ℕ} (o : Out Shape) (x : ℕ) → x ≡ word_of (bare o) → Shown (on o (λ _. refused (because table.room))) da dl dx dy x da dl dx dy
unfolding on
shown-bare (refused w) x p = shown-refused w x refl p
shown-bare (ok sh) x p = shown-refused (because table.room) x refl p

module _ (s : List ℕ) (place : ℕ) (da dl dx dy : List ℕ) where
  abbrev rooms : Rooms
  rooms = rooms_of dl dx dy

  abbrev call : Out Shape
  call = fetch_call s place (length da) rooms

  short : length da < 4 → call ≡ on (shape_in s place) (λ _. refused (because table.room))
  unfolding fetch_call room_for_shape need
  short h = rw (lt-leb 4 (length da) h)

  enough : 4 ≤ length da → call ≡ fetch_of s place rooms
  unfolding fetch_call room_for_shape fetch_of in_rooms
  enough h = rw (le-leb 4 (length da) h)

  -- too few words
  pub shown-short : (x : ℕ) → length da < 4 → x ≡ word_of (bare (shape_in s place)) → Shown call da dl dx dy x da dl dx dy
  shown-short x h p = rw (short h) (shown-bare (shape_in s place) x p)

  module _ (h : 4 ≤ length da) (y : Out Found) (el ex ey : List ℕ) (q : Fetches (fetch_of s place rooms) dl dx dy y el ex ey) where
    told-rest : (x : ℕ) (ea : List ℕ) → Told (fetch_of s place rooms) vertices about_words da x ea → Shown call da dl dx dy x ea el ex ey
    told-rest x ea t = rw (enough h) (record { told = t; lens_room = q.lens_room; xs_room = q.xs_room; ys_room = q.ys_room })

    pub shown-unfound : (w : Refusal) (x : ℕ) → y ≡ refused w → x ≡ word_of (refused w) → Shown call da dl dx dy x da el ex ey
    shown-unfound w x e p = told-rest x da (told-refused w x (said-refused (fetch_of s place rooms) w (sym q.answer ∙ e)) p)

    pub shown-found : (f : Found) (ea : List ℕ) → y ≡ ok f → ea ≡ found f ++ drop 4 da → Shown call da dl dx dy f.vertices ea el ex ey
    unfolding about_words
    shown-found f ea e p =
        let z = said-shape (fetch_of s place rooms) f (sym q.answer ∙ e) in
        told-rest f.vertices ea (told-ok z.0 f.vertices ea z.1 z.2 (p ∙ ap (λ (l : List ℕ). l ++ drop 4 da) z.3))
