-- The least and the greatest of a list, the first met among equals. One law for both: over an order that is at most or at least.
-- Assumes nothing.
use Rattle.std.proofs.Common.{◌≡◌, ℕ, zero, suc, ◌+◌, ◌<◌, Bool, true, false, cond, List, [], ◌∷◌, length, get_or, take, drop, sym, refl, ap, ◌∙◌, subst, suc-le-suc, zero-le, le_of_suc-le-suc, arith, length-drop, length-take, get_or-drop, get_or-take}
use Rattle.extent.specs.Rank.{below, same_value}
use Rattle.extent.specs.Boxes.{lesser, greater, least_of, greatest_of}
use Rattle.extent.specs.FirstMet.{AtMost, Under, AtLeast, Above, Met}
use Rattle.extent.proofs.Tests.{tri}
use Rattle.extent.proofs.Ranks.{at-most-refl, at-most-trans, below-at-most, at-most-below, below-trans, below-not-itself, not-below, below-not-same}

-- an order R with its strict form S
pub record Ordered (R S : ℕ → ℕ → Type 0) : Type 0 where
  pub same : (a : ℕ) → R a a
  pub weak : (a b : ℕ) → S a b → R a b
  pub both_weak : (a b c : ℕ) → R a b → R b c → R a c
  pub weak_strict : (a b c : ℕ) → R a b → S b c → S a c
  pub strict_weak : (a b c : ℕ) → S a b → R b c → S a c

module _ (R S : ℕ → ℕ → Type 0) (o : Ordered R S) where
  -- one element
  met-one : (a : ℕ) → Met R S (a ∷ []) a
  met-one a = record { place = 0; inside = omega arith; found = refl; best = best; first = λ i h. absurd (omega arith) }
    where
      best : (i : ℕ) → i < 1 → R a (get_or (a ∷ []) i 0)
      best zero h = o.same a
      best (suc i) h = absurd (omega arith)

  -- the second element takes the first one's place
  met-new : (a x v : ℕ) (xs : List ℕ) → S x a → Met R S (x ∷ xs) v → Met R S (a ∷ x ∷ xs) v
  met-new a x v xs s m = record { place = suc m.place; inside = suc-le-suc m.inside; found = m.found; best = best; first = first }
    where
      under : S v a
      under = o.weak_strict v x a (m.best 0 (suc-le-suc zero-le)) s

      best : (i : ℕ) → i < length (a ∷ x ∷ xs) → R v (get_or (a ∷ x ∷ xs) i 0)
      best zero h = o.weak v a under
      best (suc i) h = m.best i (le_of_suc-le-suc h)

      first : (i : ℕ) → i < suc m.place → S v (get_or (a ∷ x ∷ xs) i 0)
      first zero h = under
      first (suc i) h = m.first i (le_of_suc-le-suc h)

  -- the first element stays
  met-old : (a x v : ℕ) (xs : List ℕ) → R a x → Met R S (a ∷ xs) v → Met R S (a ∷ x ∷ xs) v
  met-old a x v xs r m = go m.place m.inside m.found m.first
    where
      best : (i : ℕ) → i < length (a ∷ x ∷ xs) → R v (get_or (a ∷ x ∷ xs) i 0)
      best zero h = m.best 0 (suc-le-suc zero-le)
      best (suc zero) h = o.both_weak v a x (m.best 0 (suc-le-suc zero-le)) r
      best (suc (suc i)) h = m.best (suc i) (le_of_suc-le-suc h)

      later : (k : ℕ) → ((i : ℕ) → i < suc k → S v (get_or (a ∷ xs) i 0)) → (i : ℕ) → i < suc (suc k) → S v (get_or (a ∷ x ∷ xs) i 0)
      later k f zero h = f 0 (suc-le-suc zero-le)
      later k f (suc zero) h = o.strict_weak v a x (f 0 (suc-le-suc zero-le)) r
      later k f (suc (suc i)) h = f (suc i) (le_of_suc-le-suc h)

      go : (k : ℕ) → k < length (a ∷ xs) → v ≡ get_or (a ∷ xs) k 0 → ((i : ℕ) → i < k → S v (get_or (a ∷ xs) i 0)) → Met R S (a ∷ x ∷ xs) v
      go zero h e f = record { place = 0; inside = suc-le-suc zero-le; found = e; best = best; first = λ i l. absurd (omega arith) }
      go (suc k) h e f = record { place = suc (suc k); inside = suc-le-suc h; found = e; best = best; first = later k f }

  -- no two are met so: of two places, the earlier one's value would be strictly after the later one's, and first to it
  met-unique : ((a : ℕ) → S a a → ⊥) → (l : List ℕ) (v w : ℕ) → Met R S l v → Met R S l w → v ≡ w
  met-unique strict l v w m n = m.found ∙ ap (λ (i : ℕ). get_or l i 0) (tri m.place n.place (clash v w m n) (clash w v n m)) ∙ sym n.found
    where
      clash : (v w : ℕ) (m : Met R S l v) (n : Met R S l w) → m.place < n.place → ⊥
      clash v w m n h = strict w (o.strict_weak w v w (subst (S w) (sym m.found) (n.first m.place h)) (subst (R v) (sym n.found) (m.best n.place n.inside)))

-- the one of a whole list is first to the one of a part
pub met-part : (R S : ℕ → ℕ → Type 0) (l : List ℕ) (i k v w : ℕ) → Met R S l v → Met R S (take k (drop i l)) w → R v w
met-part R S l i k v w m n =
    let j = n.place in
    let h = simp (length-take, length-drop) at n.inside in
    subst (R v) (sym (n.found ∙ get_or-take k (drop i l) j 0 (omega (arith, h)) ∙ get_or-drop i l j 0)) (m.best (i + j) (omega (arith, h)))

-- ---- least and greatest

upward : Ordered AtMost Under
upward = record { same = at-most-refl; weak = below-at-most; both_weak = at-most-trans; weak_strict = at-most-below; strict_weak = below-trans }

downward : Ordered AtLeast Above
downward = record {
  same = at-most-refl;
  weak = λ a b s. below-at-most b a s;
  both_weak = λ a b c p q. at-most-trans c b a q p;
  weak_strict = λ a b c p q. below-trans c b a q p;
  strict_weak = λ a b c p q. at-most-below c b a q p;
}

pub least-met : (a : ℕ) (xs : List ℕ) → Met AtMost Under (a ∷ xs) (least_of a xs)
unfolding least_of lesser
least-met a [] = met-one AtMost Under upward a
least-met a (x ∷ xs) = go (below x a) refl (least-met x xs) (least-met a xs)
  where
    go : (t : Bool) → below x a ≡ t → Met AtMost Under (x ∷ xs) (least_of x xs) → Met AtMost Under (a ∷ xs) (least_of a xs)
        → Met AtMost Under (a ∷ x ∷ xs) (least_of (cond t x a) xs)
    go true e m n = met-new AtMost Under upward a x (least_of x xs) xs e m
    go false e m n = met-old AtMost Under upward a x (least_of a xs) xs (not-below x a e) n

pub greatest-met : (a : ℕ) (xs : List ℕ) → Met AtLeast Above (a ∷ xs) (greatest_of a xs)
unfolding greatest_of greater
greatest-met a [] = met-one AtLeast Above downward a
greatest-met a (x ∷ xs) = go (below a x) refl (greatest-met x xs) (greatest-met a xs)
  where
    go : (t : Bool) → below a x ≡ t → Met AtLeast Above (x ∷ xs) (greatest_of x xs) → Met AtLeast Above (a ∷ xs) (greatest_of a xs)
        → Met AtLeast Above (a ∷ x ∷ xs) (greatest_of (cond t x a) xs)
    go true e m n = met-new AtLeast Above downward a x (greatest_of x xs) xs e m
    go false e m n = met-old AtLeast Above downward a x (greatest_of a xs) xs (not-below a x e) n

-- no element before the one that was met is equal to it in value
pub least_first : (l : List ℕ) (v i : ℕ) (m : Met AtMost Under l v) → i < m.place → same_value v (get_or l i 0) ≡ false
least_first l v i m h = below-not-same v (get_or l i 0) (m.first i h)

pub greatest-first : (l : List ℕ) (v i : ℕ) (m : Met AtLeast Above l v) → i < m.place → same_value (get_or l i 0) v ≡ false
greatest-first l v i m h = below-not-same (get_or l i 0) v (m.first i h)

-- the rule fixes it: two that are met so are one
pub least-unique : (l : List ℕ) (v w : ℕ) → Met AtMost Under l v → Met AtMost Under l w → v ≡ w
least-unique l v w m n = met-unique AtMost Under upward below-not-itself l v w m n

pub greatest-unique : (l : List ℕ) (v w : ℕ) → Met AtLeast Above l v → Met AtLeast Above l w → v ≡ w
greatest-unique l v w m n = met-unique AtLeast Above downward below-not-itself l v w m n
