-- Laws of a test that each of a list passes, and of the walk that makes it: those from place i on decide. Assumes nothing.
use mathlib.Core.Path.{◌≡◌, refl, sym, ap, ◌∙◌}
use mathlib.Core.Bool.{Bool, true, false, ◌&&◌, and_assoc}
use mathlib.Core.List.{List, [], ◌∷◌, ◌++◌}
use Prim.Native.Nat.{ℕ, zero, suc, ◌+◌, ◌<◌}
use native.Mathlib.Nat.{le_of_suc-le-suc}
use native.Mathlib.Numerals.{add-one}
use native.Mathlib.Omega.{arith}
use lib.ListN.{length, get_or, take, drop, take-append-drop}
use lib.Seq.{drop-cons}
use Rattle.answer.specs.All.{all_of}
use Rattle.answer.proofs.Both.{both, both_l, both_r, first-fails, then}

module _ {A : Type 0} (f : A → Bool) where
  -- none, and one more
  pub all_none : all_of f [] ≡ true
  unfolding all_of
  all_none = refl

  pub all_cons : (a : A) (l : List A) → all_of f (a ∷ l) ≡ (f a && all_of f l)
  unfolding all_of
  all_cons a l = refl

  pub all_append : (l m : List A) → all_of f (l ++ m) ≡ (all_of f l && all_of f m)
  unfolding all_of
  all_append [] m = refl
  all_append (a ∷ l) m = ap (λ (t : Bool). f a && t) (all_append l m) ∙ sym (and_assoc (f a) (all_of f l) (all_of f m))

  -- each of them passes
  pub all-at : (l : List A) (i : ℕ) (d : A) → all_of f l ≡ true → i < length l → f (get_or l i d) ≡ true
  unfolding all_of
  all-at [] i d e h = absurd (omega arith)
  all-at (a ∷ l) zero d e h = both_l (f a) (all_of f l) e
  all-at (a ∷ l) (suc i) d e h = all-at l i d (both_r (f a) (all_of f l) e) (le_of_suc-le-suc h)

  -- those before a place and those from it on
  all-cut : (i : ℕ) (l : List A) → all_of f l ≡ true → (all_of f (take i l) && all_of f (drop i l)) ≡ true
  all-cut i l e = sym (all_append (take i l) (drop i l)) ∙ ap (all_of f) (take-append-drop i l) ∙ e

  pub all_take : (i : ℕ) (l : List A) → all_of f l ≡ true → all_of f (take i l) ≡ true
  all_take i l e = both_l (all_of f (take i l)) (all_of f (drop i l)) (all-cut i l e)

  pub all_drop : (i : ℕ) (l : List A) → all_of f l ≡ true → all_of f (drop i l) ≡ true
  all_drop i l e = both_r (all_of f (take i l)) (all_of f (drop i l)) (all-cut i l e)

  -- a part
  pub all-part : (i k : ℕ) (l : List A) → all_of f l ≡ true → all_of f (take k (drop i l)) ≡ true
  all-part i k l e = all_take k (drop i l) (all_drop i l e)

-- a weaker test
pub all-imp : {A : Type 0} (f g : A → Bool) (l : List A) → ((a : A) → f a ≡ true → g a ≡ true) → all_of f l ≡ true → all_of g l ≡ true
unfolding all_of
all-imp f g [] h e = refl
all-imp f g (a ∷ l) h e = both (h a (both_l (f a) (all_of f l) e)) (all-imp f g l h (both_r (f a) (all_of f l) e))

-- ---- the walk: a stands at place i

-- as an element does
pub stands : {A : Type 0} (l : List A) (i : ℕ) (d : A) → i < length l → drop i l ≡ get_or l i d ∷ drop (i + 1) l
stands l i d h = drop-cons l i d h ∙ ap (λ (n : ℕ). get_or l i d ∷ drop n l) (sym (add-one i))

module _ {A : Type 0} (f : A → Bool) (l : List A) (i : ℕ) (a : A) (q : drop i l ≡ a ∷ drop (i + 1) l) where
  split : all_of f (drop i l) ≡ (f a && all_of f (drop (i + 1) l))
  split = ap (all_of f) q ∙ all_cons f a (drop (i + 1) l)

  -- it passes
  pub all_more : f a ≡ true → all_of f (drop i l) ≡ all_of f l → all_of f (drop (i + 1) l) ≡ all_of f l
  all_more t e = then (f a) (all_of f (drop (i + 1) l)) (all_of f (drop (i + 1) l)) t refl ∙ sym split ∙ e

  -- it does not
  pub all-stop : f a ≡ false → all_of f (drop i l) ≡ all_of f l → false ≡ all_of f l
  all-stop t e = first-fails (f a) (all_of f (drop (i + 1) l)) t ∙ sym split ∙ e

  -- it does where all do
  pub all_here : all_of f l ≡ true → f a ≡ true
  all_here e = both_l (f a) (all_of f (drop (i + 1) l)) (sym split ∙ all_drop f i l e)

-- none is left
pub all_done : {A : Type 0} (f : A → Bool) (l : List A) (i : ℕ) → drop i l ≡ [] → all_of f (drop i l) ≡ all_of f l → true ≡ all_of f l
all_done f l i q e = sym (all_none f) ∙ sym (ap (all_of f) q) ∙ e
