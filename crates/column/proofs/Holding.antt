-- Laws of the values that the bytes of a column hold in full: how many end within them, one more at a time, and what that number means of the
-- places where entries end. Over the pattern size P. Assumes nothing.
use mathlib.Core.Path.{◌≡◌, refl, sym, ap, ◌∙◌}
use mathlib.Core.List.{List}
use mathlib.Core.Bool.{Bool, true, false}
use Prim.Native.Nat.{ℕ, zero, suc, ◌+◌, ◌-◌, ◌*◌, ◌≤◌, ◌<◌}
use native.Mathlib.Omega.{arith}
use lib.Dec.{leb}
use lib.ListN.{length, get_or}
use borrow.Author.Tests.{le-leb, lt-leb, leb-true, leb-false}
use Rattle.le.specs.Number.{number}
use Rattle.entry.specs.Entry.{size_at, after}
use Rattle.entry.proofs.Reading.{after-le}
use Rattle.column.specs.Read.{entries_within, held_of}

-- ---- entries from a place on, in so many bits

module _ (P b w room : ℕ) where
  abbrev here : ℕ → ℕ → ℕ
  here k at = entries_within P b w room k at

  abbrev next : ℕ → ℕ
  next at = at + size_at P b w at

  -- one that ends within, and then the others; one that does not, and none
  pub within_more : (k at : ℕ) → next at ≤ room → here (suc k) at ≡ suc (here k (next at))
  unfolding entries_within
  within_more k at h = simp (le-leb (next at) room h)

  pub within-stops : (k at : ℕ) → room < next at → here (suc k) at ≡ 0
  unfolding entries_within
  within-stops k at h = simp (lt-leb (next at) room h)

  -- what the number is: that many entries end within, and where there are more the next one does not
  pub record Within (k at j : ℕ) : Type 0 where
    pub most : j ≤ k
    pub fits : after P b w j at ≤ room
    pub lacks : j < k → room < after P b w (suc j) at

  pub within-is : (k at : ℕ) → at ≤ room → Within k at (here k at)
  unfolding entries_within after
  within-is zero at h = record { most = omega arith; fits = h; lacks = λ l. absurd (omega arith) }
  within-is (suc k) at h = go (leb (next at) room) refl (within-is k (next at))
    where
      go : (t : Bool) → leb (next at) room ≡ t → (next at ≤ room → Within k (next at) (here k (next at))) → Within (suc k) at (here (suc k) at)
      go true e on =
          let l : next at ≤ room = leb-true (next at) room e in
          let r = on l in
          rw (within_more k at l) (record { most = omega (arith, r.most); fits = r.fits; lacks = λ q. r.lacks (omega arith) })
      go false e on =
          let l : room < next at = leb-false (next at) room e in
          rw (within-stops k at l) (record { most = omega arith; fits = h; lacks = λ q. l })

  -- and it is the only such number
  pub within-one : (k at j : ℕ) → j < k → after P b w j at ≤ room → room < after P b w (suc j) at → here k at ≡ j
  unfolding after
  within-one zero at j l h m = absurd (omega arith)
  within-one (suc k) at zero l h m = within-stops k at m
  within-one (suc k) at (suc j) l h m =
      let q : next at ≤ room = omega (arith, after-le P b w j (next at)) in
      within_more k at q ∙ ap suc (within-one k (next at) j (omega arith) h m)

-- ---- the values of a column

module _ (P : ℕ) (s : List ℕ) (n : ℕ) where
  abbrev room : ℕ
  room = 8 * length s

  abbrev rest : ℕ → ℕ → ℕ
  rest k at = entries_within P (number s) (get_or s 0 0) room k at

  pub held_none : room < 8 + P → held_of P s n ≡ 0
  unfolding held_of
  held_none h = simp (lt-leb (8 + P) room h)

  pub held-some : 8 + P ≤ room → held_of P s n ≡ suc (rest (n - 1) (8 + P))
  unfolding held_of
  held-some h = simp (le-leb (8 + P) room h)

  -- ---- counted one by one: i values are held, and the next entry begins at a place within the bytes

  pub record Counted (at i : ℕ) : Type 0 where
    pub first : 0 < i
    pub most : i ≤ n
    pub within : at ≤ room
    pub sum : held_of P s n ≡ i + rest (n - i) at

  pub counted-one : 0 < n → 8 + P ≤ room → Counted (8 + P) 1
  counted-one h l = record { first = omega arith; most = h; within = l; sum = held-some l ∙ omega arith }

  pub counted-more : (at i to : ℕ) → Counted at i → i < n → to ≡ at + size_at P (number s) (get_or s 0 0) at → to ≤ room → Counted to (i + 1)
  counted-more at i to c l e h =
      let k : n - i ≡ suc (n - (i + 1)) = omega arith in
      let q : rest (n - i) at ≡ suc (rest (n - (i + 1)) to) =
      ap (λ (j : ℕ). rest j at) k ∙ within_more P (number s) (get_or s 0 0) room (n - (i + 1)) at (omega (arith, e)) ∙ ap (λ (j : ℕ). suc (rest (n - (i + 1)) j)) (sym e) in
      record { first = omega arith; most = omega (arith, l); within = h; sum = omega (arith, c.sum, q) }

  pub counted-stops : (at i to : ℕ) → Counted at i → i < n → to ≡ at + size_at P (number s) (get_or s 0 0) at → room < to → i ≡ held_of P s n
  counted-stops at i to c l e h =
      let k : n - i ≡ suc (n - (i + 1)) = omega arith in
      let q : rest (n - i) at ≡ 0 = ap (λ (j : ℕ). rest j at) k ∙ within-stops P (number s) (get_or s 0 0) room (n - (i + 1)) at (omega (arith, e)) in
      omega (arith, c.sum, q)

  pub counted-all : (at i : ℕ) → Counted at i → n ≤ i → i ≡ held_of P s n
  unfolding entries_within
  counted-all at i c l =
      let k : n - i ≡ 0 = omega (arith, c.most) in
      let q : rest (n - i) at ≡ 0 = ap (λ (j : ℕ). rest j at) k in
      omega (arith, c.sum, q)
