-- The writer's steps through four words. Assumes nothing.
use Prim.Native.Nat.{ℕ, ◌≤◌, ◌<◌}
use mathlib.Core.Path.{◌≡◌, refl, ◌∙◌}
use mathlib.Core.List.{List, ◌++◌}
use lib.ListN.{length, drop}
use Rattle.answer.specs.Table as table
use Rattle.answer.specs.declared.Refusal.{Refusal}
use Rattle.answer.specs.Refusal.{because}
use Rattle.answer.specs.Outcome.{Out, refused, ok, on, filled}
use Rattle.answer.specs.Rule.{passed}
use Rattle.pageblock.specs.Body.{Handed}
use Rattle.writer.specs.declared.Writer.{Writer}
use Rattle.writer.specs.declared.Stepped.{Stepped}
use Rattle.writer.specs.State.{Added, open_of, page_step_of, close_of, state_after, buffer_after, Steps}
use Rattle.viewer.specs.Word.{word_of, Told}
use Rattle.viewer.specs.Four.{state_of, state_words}
use Rattle.viewer.specs.Calls.{open_call, page_call, close_call, next_words, Kept}
use Rattle.viewer.proofs.Stored.{four-short, four-enough}
use Rattle.viewer.proofs.Telling.{told-refused, told-ok}

-- ---- a step's answer handed back, by its verdict

module _ (r : Stepped) (ws : List ℕ) where
  pub back-refused : (w : Refusal) (x : ℕ) → r.verdict ≡ refused w → x ≡ word_of (refused w) → Told r.verdict (λ _. 0) (λ _. state_words r.writer) ws x ws
  back-refused w x e p = told-refused w x e p

  pub back-taken : (left : List ℕ) → r.verdict ≡ (ok tt) → left ≡ state_words r.writer ++ drop 4 ws
      → Told r.verdict (λ _. 0) (λ _. state_words r.writer) ws 0 left
  unfolding state_words
  back-taken left e p = told-ok tt 0 left e refl p

-- ---- a call, by its outcome

-- refused before the step
pub kept-refused : (o : Out Added) (ws d : List ℕ) (w : Refusal) (x : ℕ) → o ≡ refused w → x ≡ word_of (refused w) → Kept o ws d x ws d
unfolding buffer_after
kept-refused o ws d w x e p = record { told = told-refused w x e p; buffer = rw e }

-- the step, with what it hands back in the words
handed : (o : Out Added) (st : Writer) (ws d : List ℕ) (r : Stepped) (left : List ℕ) (x : ℕ) (next : List ℕ)
    → Steps o st d r left → Told r.verdict (λ _. 0) (λ _. state_words r.writer) ws x next → Kept o ws d x next left
unfolding on passed filled state_after next_words
handed (refused w) st ws d r left x next q t =
    record { told = record { word = t.word ∙ rw q.verdict; room = t.room ∙ rw q.verdict }; buffer = q.buffer }
handed (ok a) st ws d r left x next q t =
    record { told = record { word = t.word ∙ rw q.verdict; room = t.room ∙ rw (q.verdict, q.state) }; buffer = q.buffer }

pub kept_step : (o p : Out Added) (st : Writer) (ws d : List ℕ) (r : Stepped) (left : List ℕ) (x : ℕ) (next : List ℕ) → o ≡ p
    → Steps p st d r left → Told r.verdict (λ _. 0) (λ _. state_words r.writer) ws x next → Kept o ws d x next left
kept_step o p st ws d r left x next e q t = rw e (handed p st ws d r left x next q t)

-- ---- what a call comes to: 2 with fewer than four words, else the step on their state

module _ (ws : List ℕ) (room : ℕ) where
  module _ (h : length ws < 4) where
    pub open-short : open_call ws room ≡ refused (because table.room)
    unfolding open_call
    open-short = four-short ws _ h

    pub page-short : (i : Handed) → page_call ws room i ≡ refused (because table.room)
    unfolding page_call
    page-short i = four-short ws _ h

    pub close-short : close_call ws room ≡ refused (because table.room)
    unfolding close_call
    close-short = four-short ws _ h

  module _ (h : 4 ≤ length ws) where
    pub open_step : open_call ws room ≡ open_of room
    unfolding open_call
    open_step = four-enough ws _ h

    pub page-step : (st : Writer) (i : Handed) → st ≡ state_of ws → page_call ws room i ≡ page_step_of st room i
    unfolding page_call
    page-step st i e = four-enough ws _ h ∙ rw e

    pub close-step : (st : Writer) → st ≡ state_of ws → close_call ws room ≡ close_of st room
    unfolding close_call
    close-step st e = four-enough ws _ h ∙ rw e
