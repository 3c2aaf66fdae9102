-- Answers as words, by the ways through them: the full check, and the count of a query. Assumes nothing.
use Prim.Native.Nat.{ℕ, ◌+◌, ◌*◌, ◌^◌}
use mathlib.Core.Path.{◌≡◌, refl, ◌∙◌}
use mathlib.Core.List.{List}
use Rattle.answer.specs.Outcome.{refused, ok, on, Out}
use Rattle.answer.specs.declared.Refusal.{Refusal}
use Rattle.frame.specs.declared.walk.Totals.{Totals}
use Rattle.file.specs.Check.{check_of}
use Rattle.query.specs.declared.ask.Ask.{Ask}
use Rattle.query.specs.Block.{ask_of}
use Rattle.search.specs.Search.{count_of}
use Rattle.viewer.specs.Word.{word_of}

pub refusal_is : (w : Refusal) → w.index * 2 ^ 42 + w.column * 2 ^ 40 + w.number * 2 ^ 32 + w.page ≡ word_of (refused w)
unfolding word_of
refusal_is w = refl

module _ (s : List ℕ) (r : Out Totals) (f : r ≡ check_of s) where
  pub word_sound : (t : Totals) → r ≡ ok t → t.shapes ≡ word_of (on (check_of s) (λ t. ok t.shapes))
  unfolding on word_of
  word_sound t e = rw (← f, e)

  pub word-refused : (w : Refusal) (x : ℕ) → r ≡ refused w → x ≡ word_of (refused w) → x ≡ word_of (on (check_of s) (λ t. ok t.shapes))
  unfolding on
  word-refused w x e q = q ∙ rw (← f, e)

-- ---- the count of a query's block

module _ (q s : List ℕ) (r : Out Ask) (f : r ≡ ask_of q) where
  pub word-unasked : (w : Refusal) (x : ℕ) → r ≡ refused w → x ≡ word_of (refused w) → x ≡ word_of (on (ask_of q) (λ a. count_of a s))
  unfolding on
  word-unasked w x e p = p ∙ rw (← f, e)

  module _ (a : Ask) (e : r ≡ ok a) (c : Out ℕ) (g : c ≡ count_of a s) where
    pub word-hits : (n : ℕ) → c ≡ ok n → n ≡ word_of (on (ask_of q) (λ a. count_of a s))
    unfolding on word_of
    word-hits n h = rw (← f, e, ← g, h)

    pub word-uncounted : (w : Refusal) (x : ℕ) → c ≡ refused w → x ≡ word_of (refused w) → x ≡ word_of (on (ask_of q) (λ a. count_of a s))
    unfolding on
    word-uncounted w x h p = p ∙ rw (← f, e, ← g, h)
