-- A choice of two that is carried through a list: the walk that makes it, and what it has of the list. Assumes nothing.
use Rattle.std.proofs.Common.{◌≡◌, ℕ, zero, suc, ◌+◌, ◌<◌, ◌≤◌, List, [], ◌∷◌, length, get_or, drop, sym, ap, ◌∙◌, suc-le-suc, zero-le, le_of_suc-le-suc, arith, drop_of_length-le}
use Rattle.answer.proofs.Alls.{stands}
use Rattle.extent.specs.Span.{carried}

-- ---- the walk: a is what the first i values give

-- with those from i on it makes the whole
abbrev pub Carries : (ℕ → ℕ → ℕ) → List ℕ → ℕ → ℕ → Type 0
Carries f l i a = carried f a (drop i l) ≡ carried f (get_or l 0 0) (drop 1 l)

module _ (f : ℕ → ℕ → ℕ) (l : List ℕ) (i a : ℕ) where
  -- one value more
  pub carries-more : (r : ℕ) → i < length l → r ≡ f a (get_or l i 0) → Carries f l i a → Carries f l (i + 1) r
  unfolding carried
  carries-more r h e c =
      ap (λ (x : ℕ). carried f x (drop (i + 1) l)) e
      ∙ sym (ap (carried f a) (stands l i 0 h))
      ∙ c

  -- all of them
  pub carries-done : length l ≤ i → Carries f l i a → a ≡ carried f (get_or l 0 0) (drop 1 l)
  unfolding carried
  carries-done h c = sym (ap (carried f a) (drop_of_length-le l h)) ∙ c

-- ---- what it has

-- f chooses one of two, first by R to both
pub record Chooses (f : ℕ → ℕ → ℕ) (R : ℕ → ℕ → Type 0) : Type 1 where
  pub same : (a : ℕ) → R a a
  pub through : (a b c : ℕ) → R a b → R b c → R a c
  pub first : (a v : ℕ) → R (f a v) a
  pub second : (a v : ℕ) → R (f a v) v
  pub has : (P : ℕ → Type 0) (a v : ℕ) → P a → P v → P (f a v)

module _ (f : ℕ → ℕ → ℕ) (R : ℕ → ℕ → Type 0) (o : Chooses f R) where
  -- it is first to each
  pub carried-best : (a : ℕ) (vs : List ℕ) (i : ℕ) → i < length (a ∷ vs) → R (carried f a vs) (get_or (a ∷ vs) i 0)
  unfolding carried
  carried-best a [] zero h = o.same a
  carried-best a [] (suc i) h = absurd (omega arith)
  carried-best a (v ∷ vs) zero h = o.through _ (f a v) a (carried-best (f a v) vs 0 (suc-le-suc zero-le)) (o.first a v)
  carried-best a (v ∷ vs) (suc zero) h = o.through _ (f a v) v (carried-best (f a v) vs 0 (suc-le-suc zero-le)) (o.second a v)
  carried-best a (v ∷ vs) (suc (suc i)) h = carried-best (f a v) vs (suc i) (le_of_suc-le-suc h)

  -- it has what each has
  pub carried-has : (P : ℕ → Type 0) (a : ℕ) (vs : List ℕ) → ((i : ℕ) → i < length (a ∷ vs) → P (get_or (a ∷ vs) i 0)) → P (carried f a vs)
  unfolding carried
  carried-has P a [] p = p 0 (suc-le-suc zero-le)
  carried-has P a (v ∷ vs) p = carried-has P (f a v) vs each
    where
      each : (i : ℕ) → i < length (f a v ∷ vs) → P (get_or (f a v ∷ vs) i 0)
      each zero h = o.has P a v (p 0 (suc-le-suc zero-le)) (p 1 (suc-le-suc (suc-le-suc zero-le)))
      each (suc i) h = p (suc (suc i)) (suc-le-suc h)
