-- The least value of a function on 0 to k is at `least`, and at no smaller number. Assumes nothing.
use mathlib.Core.Path.{◌≡◌, refl, sym, ◌∙◌, subst}
use mathlib.Core.Bool.{Bool, true, false, cond}
use mathlib.Core.Logic.{⊎_elim}
use Prim.Native.Nat.{ℕ, zero, suc, ◌+◌, ◌≤◌, ◌<◌, zero-le}
use native.Mathlib.Nat.{eq-or-lt_of_le}
use native.Mathlib.Numerals.{add-one}
use native.Mathlib.Omega.{arith}
use lib.Dec.{ltb}
use borrow.Author.Tests.{ltb-true, ltb-false}
use Rattle.width.specs.declared.Choice.{Choice}
use Rattle.width.specs.Width.{Least, least}
use Rattle.width.specs.Choice.{lesser_choice}

pub least-law : (f : ℕ → ℕ) (k : ℕ) → Least f k (least f k)
unfolding least
least-law f zero = record { within = zero-le; least_of = λ j h. at_zero j (omega arith); first_of = λ j h. absurd (omega arith) }
  where
    at_zero : (j : ℕ) → j ≡ 0 → f 0 ≤ f j
    at_zero j e = subst (λ (i : ℕ). f 0 ≤ f i) (sym e) (omega arith)
least-law f (suc k) = go (ltb (f (suc k)) (f (least f k))) refl (least-law f k)
  where
    go : (t : Bool) → ltb (f (suc k)) (f (least f k)) ≡ t → Least f k (least f k) → Least f (suc k) (cond t (suc k) (least f k))
    go true e r =
        let lt : f (suc k) < f (least f k) = ltb-true _ _ e in
        record {
          within = omega arith;
          least_of = λ j h. ⊎_elim (λ (q : j ≡ suc k). subst (λ (i : ℕ). f (suc k) ≤ f i) (sym q) (omega arith)) (λ (q : j < suc k). omega (arith, r.least_of j (omega arith))) (eq-or-lt_of_le h);
          first_of = λ j h. omega (arith, r.least_of j (omega arith));
        }
    go false e r =
        let le : f (least f k) ≤ f (suc k) = ltb-false _ _ e in
        record {
          within = omega (arith, r.within);
          least_of = λ j h. ⊎_elim (λ (q : j ≡ suc k). subst (λ (i : ℕ). f (least f k) ≤ f i) (sym q) le) (λ (q : j < suc k). r.least_of j (omega arith)) (eq-or-lt_of_le h);
          first_of = λ j h. r.first_of j h;
        }

-- ---- the walk over the widths: c is the choice among 0 to k

pub record Chosen (f : ℕ → ℕ) (k : ℕ) (c : Choice) : Type 0 where
  pub width : c.width ≡ least f k
  pub size : c.size ≡ f c.width

-- width 0 alone
pub chosen-zero : (f : ℕ → ℕ) (size : ℕ) → size ≡ f 0 → Chosen f 0 (record { width = 0; size = size })
unfolding least
chosen-zero f size e = record { width = refl; size = e }

-- one width more
pub chosen_more : (f : ℕ → ℕ) (k size : ℕ) (c r : Choice) → size ≡ f (k + 1) → r ≡ lesser_choice c (k + 1) size → Chosen f k c → Chosen f (k + 1) r
unfolding least
chosen_more f k size c r e q h = subst (Chosen f (k + 1)) (sym q) (go (ltb size c.size) refl)
  where
    test : ltb size c.size ≡ ltb (f (suc k)) (f (least f k))
    test = rw (e, h.size, h.width, add-one)

    go : (t : Bool) → ltb size c.size ≡ t → Chosen f (k + 1) (cond t (record { width = k + 1; size = size }) c)
    go true g = let l : least f (k + 1) ≡ k + 1 = rw (add-one, ← test, g) in record { width = sym l; size = e }
    go false g = let l : least f (k + 1) ≡ least f k = rw (add-one, ← test, g) in record { width = h.width ∙ sym l; size = h.size }
