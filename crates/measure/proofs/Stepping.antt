-- The walk that reads one value a call and adds them up: the sum so far and the sum of the values still to come make the sum of the run.
-- Assumes nothing.
use Rattle.std.proofs.Common.{◌≡◌, ℕ, zero, suc, ◌+◌, ◌-◌, ◌%◌, ◌^◌, ◌<◌, List, [], ◌∷◌, sym, refl, ap, ◌∙◌, add-zero, add_assoc, mod-lt, mod-eq_of_lt, zero-add, arith, pow_pos}
use native.Mathlib.Nat.{add-mod-mod, mod-add-mod}
use Rattle.answer.specs.Table as Table
use Rattle.answer.specs.declared.Refusal.{Refusal}
use Rattle.answer.specs.Refusal.{because}
use Rattle.column.specs.declared.Position.{Position}
use Rattle.step.specs.declared.Answer.{Answer}
use Rattle.step.specs.declared.Answer.TheVariants.{Value, End, Refused}
use Rattle.step.specs.Step.{step_of, answer_with}
use Rattle.step.specs.Run.{follow, run_from}
use Rattle.step.proofs.Calls.{said-refused, next-many}
use Rattle.measure.specs.Sum.{sum_of}

-- the values that the run from a position gives, of at most so many
abbrev pub given : List ℕ → ℕ → ℕ → Position → List ℕ
given s n most p = (run_from 64 s n most p).got

-- what an answer leaves to be given
given-more : (s : List ℕ) (n left : ℕ) (p : Position) (v : ℕ) (q : Position) → 0 < left → answer_with p (step_of 64 s n p) ≡ Value v q → given s n left p ≡ v ∷ given s n (left - 1) q
unfolding run_from
given-more s n zero p v q h e = absurd (omega arith)
given-more s n (suc k) p v q h e =
    let l : k ≡ suc k - 1 = omega arith in
    ap (λ (a : Answer). (follow a (run_from 64 s n k)).got) e ∙ ap (λ (j : ℕ). v ∷ given s n j q) l

given-end : (s : List ℕ) (n left : ℕ) (p q : Position) → answer_with p (step_of 64 s n p) ≡ End q → given s n left p ≡ []
unfolding run_from
given-end s n zero p q e = refl
given-end s n (suc k) p q e = ap (λ (a : Answer). (follow a (run_from 64 s n k)).got) e

given-refused : (s : List ℕ) (n left : ℕ) (p : Position) (w : Refusal) (q : Position) → answer_with p (step_of 64 s n p) ≡ Refused w q → given s n left p ≡ []
unfolding run_from
given-refused s n zero p w q e = refl
given-refused s n (suc k) p w q e = ap (λ (a : Answer). (follow a (run_from 64 s n k)).got) e

pub given-none : (s : List ℕ) (n left : ℕ) (p : Position) → left ≡ 0 → given s n left p ≡ []
unfolding run_from
given-none s n zero p h = refl
given-none s n (suc k) p h = absurd (omega arith)

-- over 2,048 none is given
pub given-many : (s : List ℕ) (n left : ℕ) (p : Position) → 2048 < n → given s n left p ≡ []
given-many s n left p h = given-refused s n left p (because Table.many) p (sym (said-refused p (because Table.many) (next-many 64 s n p h)))

-- ---- the sum

pub sum-zero : (l : List ℕ) → l ≡ [] → 0 ≡ sum_of l
unfolding sum_of
sum-zero l e = sym (ap sum_of e)

sum_lt : (l : List ℕ) → sum_of l < 2 ^ 64
unfolding sum_of
sum_lt [] = omega arith
sum_lt (v ∷ l) = mod-lt (v + sum_of l) (pow_pos 64)

pub sum-start : (l : List ℕ) → sum_of l ≡ (0 + sum_of l) % 2 ^ 64
sum-start l = sym (ap (λ (x : ℕ). x % 2 ^ 64) (zero-add (sum_of l)) ∙ mod-eq_of_lt (sum_lt l))

pub sum-none : (l : List ℕ) (sum : ℕ) → sum < 2 ^ 64 → l ≡ [] → sum ≡ (sum + sum_of l) % 2 ^ 64
unfolding sum_of
sum-none l sum h e = sym (ap (λ (x : List ℕ). (sum + sum_of x) % 2 ^ 64) e ∙ ap (λ (x : ℕ). x % 2 ^ 64) (add-zero sum) ∙ mod-eq_of_lt h)

module _ (s : List ℕ) (n left : ℕ) (p : Position) (sum : ℕ) (a : Answer) (e : a ≡ answer_with p (step_of 64 s n p)) where
  -- one value more
  pub sum_more : (v : ℕ) (q : Position) → 0 < left → a ≡ Value v q → (sum + sum_of (given s n left p)) % 2 ^ 64 ≡ ((sum + v) % 2 ^ 64 + sum_of (given s n (left - 1) q)) % 2 ^ 64
  unfolding sum_of
  sum_more v q h k =
      let r : ℕ = sum_of (given s n (left - 1) q) in
      ap (λ (l : List ℕ). (sum + sum_of l) % 2 ^ 64) (given-more s n left p v q h (sym e ∙ k))
      ∙ add-mod-mod sum (v + sum_of (given s n (left - 1) q)) (2 ^ 64)
      ∙ ap (λ (x : ℕ). x % 2 ^ 64) (sym (add_assoc sum v (sum_of (given s n (left - 1) q))))
      ∙ sym (mod-add-mod (sum + v) (2 ^ 64) (sum_of (given s n (left - 1) q)))

  -- the last answer
  pub sum-end : (q : Position) → sum < 2 ^ 64 → a ≡ End q → sum ≡ (sum + sum_of (given s n left p)) % 2 ^ 64
  sum-end q h k = sum-none (given s n left p) sum h (given-end s n left p q (sym e ∙ k))

  pub sum-refused : (w : Refusal) (q : Position) → sum < 2 ^ 64 → a ≡ Refused w q → sum ≡ (sum + sum_of (given s n left p)) % 2 ^ 64
  sum-refused w q h k = sum-none (given s n left p) sum h (given-refused s n left p w q (sym e ∙ k))
