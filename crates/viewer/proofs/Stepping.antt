-- One value of a column through four words: each answer of the reader, told. Assumes nothing.
use Prim.Native.Nat.{ℕ, ◌≤◌, ◌<◌}
use mathlib.Core.Path.{◌≡◌, refl, sym, ◌∙◌}
use mathlib.Core.List.{List, ◌++◌}
use native.Mathlib.Omega.{arith}
use lib.ListN.{length, drop}
use Rattle.answer.specs.Table as table
use Rattle.answer.specs.declared.Refusal.{Refusal}
use Rattle.answer.specs.Refusal.{because}
use Rattle.answer.specs.Outcome.{Out, refused, ok}
use Rattle.column.specs.declared.Position.{Position}
use Rattle.step.specs.declared.Answer.{Answer}
use Rattle.step.specs.declared.Answer.TheVariants.{Value, End, Refused}
use Rattle.step.specs.Step.{ValueOrEnd, value, end, step_of, answer_with}
use Rattle.viewer.specs.Word.{word_of, Told}
use Rattle.viewer.specs.Four.{position_of, position_words}
use Rattle.viewer.specs.Calls.{step_call, gives, moves}
use Rattle.viewer.proofs.Stored.{four-short, four-enough}
use Rattle.viewer.proofs.Telling.{told-refused, told-ok}

-- what an answer says of the outcome
said-value : (p q : Position) (v : ℕ) (o : Out ValueOrEnd) → answer_with p o ≡ Value v q → o ≡ ok (value v q)
unfolding answer_with
said-value p q v (refused w) e = let z : ◌≡◌ {A = ℕ} 0 1 = cc in absurd (omega arith)
said-value p q v (ok (value u r)) e = cc
said-value p q v (ok end) e = let z : ◌≡◌ {A = ℕ} 0 1 = cc in absurd (omega arith)

said-end : (p q : Position) (o : Out ValueOrEnd) → answer_with p o ≡ End q → o ≡ ok end
unfolding answer_with
said-end p q (refused w) e = let z : ◌≡◌ {A = ℕ} 0 1 = cc in absurd (omega arith)
said-end p q (ok (value u r)) e = let z : ◌≡◌ {A = ℕ} 0 1 = cc in absurd (omega arith)
said-end p q (ok end) e = refl

said-refused : (p q : Position) (w : Refusal) (o : Out ValueOrEnd) → answer_with p o ≡ Refused w q → o ≡ refused w
unfolding answer_with
said-refused p q w (refused x) e = cc
said-refused p q w (ok (value u r)) e = let z : ◌≡◌ {A = ℕ} 0 1 = cc in absurd (omega arith)
said-refused p q w (ok end) e = let z : ◌≡◌ {A = ℕ} 0 1 = cc in absurd (omega arith)

module _ (s : List ℕ) (n : ℕ) (ws : List ℕ) where
  -- fewer than four words
  pub step-short : (x : ℕ) → length ws < 4 → x ≡ word_of (refused (because table.room)) → Told (step_call s n ws) gives moves ws x ws
  unfolding step_call
  step-short x h p = told-refused (because table.room) x (four-short ws _ h) p

  module _ (h : 4 ≤ length ws) (p : Position) (e : p ≡ position_of ws) (r : Answer) (f : r ≡ answer_with p (step_of 64 s n p)) where
    comes : step_call s n ws ≡ step_of 64 s n p
    unfolding step_call
    comes = four-enough ws _ h ∙ rw e

    pub step-refused : (w : Refusal) (q : Position) (x : ℕ) → r ≡ Refused w q → x ≡ word_of (refused w) → Told (step_call s n ws) gives moves ws x ws
    step-refused w q x g k = told-refused w x (comes ∙ said-refused p q w _ (sym f ∙ g)) k

    -- the end: 0, and the words stay
    pub step_end : (q : Position) → r ≡ End q → Told (step_call s n ws) gives moves ws 0 ws
    unfolding gives moves
    step_end q g = told-ok end 0 ws (comes ∙ said-end p q _ (sym f ∙ g)) refl refl

    -- a value: 1, and the words are the next position
    pub step_value : (v : ℕ) (q : Position) (left : List ℕ) → r ≡ Value v q → left ≡ position_words q ++ drop 4 ws → Told (step_call s n ws) gives moves ws 1 left
    unfolding gives moves position_words
    step_value v q left g k = told-ok (value v q) 1 left (comes ∙ said-value p q v _ (sym f ∙ g)) refl k
