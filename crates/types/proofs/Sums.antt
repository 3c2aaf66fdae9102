-- Laws of sums, and of the walk that sums up: what stands from i on is still to come. Assumes nothing.
use mathlib.Core.Path.{◌≡◌, refl, sym, ap, ◌∙◌}
use mathlib.Core.List.{List, [], ◌∷◌, ◌++◌}
use Prim.Native.Nat.{ℕ, zero, suc, ◌+◌, ◌≤◌, ◌<◌}
use native.Mathlib.Nat.{zero-add}
use native.Mathlib.Numerals.{add-one}
use native.Mathlib.Omega.{arith}
use borrow.Author.Tests.{eq-eqb, ne_eqb}
use lib.Dec.{eqb}
use lib.ListN.{length, get_or, take, drop, take-append-drop, drop_of_length-le}
use lib.Seq.{drop-cons}
use Rattle.std.proofs.lemmas.List.Sums.{sum_by-cons}
use Rattle.std.specs.List.{sum}
use Rattle.types.specs.Parts.{total}

pub total-none : total [] ≡ 0
unfolding total
total-none = refl

pub total-cons : (n : ℕ) (ns : List ℕ) → total (n ∷ ns) ≡ n + total ns
unfolding total
total-cons n ns = refl

pub total-append : (a b : List ℕ) → total (a ++ b) ≡ total a + total b
unfolding total
total-append [] b = sym (zero-add (total b))
total-append (n ∷ a) b = omega (arith, total-append a b)

-- the first k and the rest
pub total-split : (k : ℕ) (l : List ℕ) → total l ≡ total (take k l) + total (drop k l)
total-split k l = sym (ap total (take-append-drop k l)) ∙ total-append (take k l) (drop k l)

pub total-take-le : (k : ℕ) (l : List ℕ) → total (take k l) ≤ total l
total-take-le k l = omega (arith, total-split k l)

-- ---- the walk

-- the one at i and those after it
pub total-from : (l : List ℕ) (i : ℕ) → i < length l → total (drop i l) ≡ get_or l i 0 + total (drop (i + 1) l)
total-from l i h = ap total (drop-cons l i 0 h) ∙ total-cons (get_or l i 0) (drop (suc i) l) ∙ ap (λ (n : ℕ). get_or l i 0 + total (drop n l)) (sym (add-one i))

-- none is left
pub total-end : (l : List ℕ) (i : ℕ) → length l ≤ i → total (drop i l) ≡ 0
total-end l i h = ap total (drop_of_length-le l {i = i} h) ∙ total-none

-- what is left of v once all are taken from it is nothing just where they sum up to v
pub spent : (left sum v : ℕ) → left + sum ≡ v → eqb left 0 ≡ eqb sum v
spent zero sum v e = eq-eqb 0 0 refl ∙ sym (eq-eqb sum v (omega arith))
spent (suc left) sum v e = ne_eqb (suc left) 0 (λ (z : suc left ≡ 0). omega arith) ∙ sym (ne_eqb sum v (λ (z : sum ≡ v). omega arith))

-- in the library's words
pub total_sum : (l : List ℕ) → total l ≡ sum l
unfolding total
total_sum [] = refl
total_sum (n ∷ l) = ap (λ (k : ℕ). n + k) (total_sum l) ∙ sym (sum_by-cons (λ (k : ℕ). k) n l)
