-- Laws of the entries that the writer writes: by cases on a step, that they say the values, and their bits. Assumes nothing.
use Rattle.std.proofs.Common.{◌≡◌, ℕ, suc, ◌+◌, ◌^◌, ◌<◌, ◌≤◌, Bool, true, false, ltb, List, [], ◌∷◌, ◌++◌, sym, refl, ap, ◌∙◌, add-zero, arith, ltb-false, ltb-true, le-ltb, lt-ltb}
use native.Mathlib.Decide.{dec_lt}
use lib.Pow.{ones_lt}
use Rattle.entry.specs.Step.{z_of, marker}
use Rattle.le.specs.Number.{Fits}
use Rattle.le.specs.Put.{put_field}
use Rattle.entry.specs.Fields.{Fld, fld, bits, put_fields}
use Rattle.entry.specs.Entry.{EntriesSay, says_none, says_step, says_full, entries, entry_of}
use Rattle.entry.proofs.Fields.{Fit, fit_none, fit_more, Narrow, narrow_none, narrow_more}

module _ (P n a v : ℕ) (vs : List ℕ) where
  pub entries-short : z_of P a v < marker n → entries P n a (v ∷ vs) ≡ fld (z_of P a v) n ∷ entries P n v vs
  unfolding entries
  entries-short h = simp (lt-ltb _ _ h)

  pub entries-full : marker n ≤ z_of P a v → entries P n a (v ∷ vs) ≡ fld (marker n) n ∷ fld v P ∷ entries P n v vs
  unfolding entries
  entries-full h = simp (le-ltb _ _ h)

pub entries-cons : (P n a v : ℕ) (vs : List ℕ) → entries P n a (v ∷ vs) ≡ entry_of P n a v ++ entries P n v vs
unfolding entries
entries-cons P n a v vs = go (ltb (z_of P a v) (marker n)) refl
  where
    go : (t : Bool) → ltb (z_of P a v) (marker n) ≡ t → entries P n a (v ∷ vs) ≡ entry_of P n a v ++ entries P n v vs
    go true e = let h = ltb-true _ _ e in entries-short P n a v vs h ∙ sym (ap (λ (l : List Fld). l ++ entries P n v vs) (entries-short P n a v [] h))
    go false e = let h = ltb-false _ _ e in entries-full P n a v vs h ∙ sym (ap (λ (l : List Fld). l ++ entries P n v vs) (entries-full P n a v [] h))

-- the writer's entries say the values
pub entries-say : (P n a : ℕ) (vs : List ℕ) → EntriesSay P n a vs (entries P n a vs)
unfolding entries
entries-say P n a [] = says_none
entries-say P n a (v ∷ vs) = go (ltb (z_of P a v) (marker n)) refl (entries-say P n v vs)
  where
    go : (t : Bool) → ltb (z_of P a v) (marker n) ≡ t → EntriesSay P n v vs (entries P n v vs) → EntriesSay P n a (v ∷ vs) (entries P n a (v ∷ vs))
    go true e r = let h = ltb-true _ _ e in rw (entries-short P n a v vs h) (says_step h r)
    go false e r = let h = ltb-false _ _ e in rw (entries-full P n a v vs h) (says_full r)

pub short-lt : (n z : ℕ) → z < marker n → z < 2 ^ n
short-lt n z h = omega (arith, ones_lt n)

-- fields that say patterns fit their bits
pub says-fit : {P n a : ℕ} {vs : List ℕ} {fs : List Fld} → Fits P vs → EntriesSay P n a vs fs → Fit fs
says-fit h says_none = fit_none
says-fit {n = n} h (says_step l r) = fit_more (short-lt n _ l) (says-fit (λ i. h (suc i)) r)
says-fit {n = n} h (says_full r) = fit_more (ones_lt n) (fit_more (h 0) (says-fit (λ i. h (suc i)) r))

-- and none is over 64 bits where width and pattern are not
pub says-narrow : {P n a : ℕ} {vs : List ℕ} {fs : List Fld} → n ≤ 64 → P ≤ 64 → EntriesSay P n a vs fs → Narrow fs
says-narrow h k says_none = narrow_none
says-narrow h k (says_step l r) = narrow_more h (says-narrow h k r)
says-narrow h k (says_full r) = narrow_more h (narrow_more k (says-narrow h k r))

-- ---- one entry: its bits, and how it is put

module _ (P n a v z : ℕ) (e : z ≡ z_of P a v) where
  pub short-entry : z < marker n → entry_of P n a v ≡ fld z n ∷ []
  unfolding entries
  short-entry h = let l : z_of P a v < marker n = rw (← e) h in entries-short P n a v [] l ∙ rw (← e)

  pub full-entry : marker n ≤ z → entry_of P n a v ≡ fld (marker n) n ∷ fld v P ∷ []
  unfolding entries
  full-entry h = let l : marker n ≤ z_of P a v = rw (← e) h in entries-full P n a v [] l

  pub short-bits : z < marker n → bits (entry_of P n a v) ≡ n
  unfolding bits
  short-bits h = ap bits (short-entry h) ∙ add-zero n

  pub full-bits : marker n ≤ z → bits (entry_of P n a v) ≡ n + P
  unfolding bits
  full-bits h = ap bits (full-entry h) ∙ ap (λ (x : ℕ). n + x) (add-zero P)

  -- at least the step's bits
  pub least-bits : n ≤ bits (entry_of P n a v)
  least-bits =
      elim (dec_lt z (marker n)) [
        | yes l ↦ omega (arith, short-bits l)
        | no l ↦ (let h : marker n ≤ z = omega arith in omega (arith, full-bits h))
      ]

  pub short-put : (s t : List ℕ) (at : ℕ) → z < marker n → t ≡ put_field s at z → t ≡ put_fields s at (entry_of P n a v)
  unfolding put_fields
  short-put s t at h q = q ∙ sym (ap (put_fields s at) (short-entry h))

  pub full_put : (s t u : List ℕ) (at m : ℕ) → m ≡ marker n → marker n ≤ z → t ≡ put_field s at m → u ≡ put_field t (at + n) v → u ≡ put_fields s at (entry_of P n a v)
  unfolding put_fields
  full_put s t u at m hm h q r = r ∙ ap (λ (x : List ℕ). put_field x (at + n) v) (q ∙ ap (put_field s at) hm) ∙ sym (ap (put_fields s at) (full-entry h))
