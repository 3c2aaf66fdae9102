-- A call that fills the start of a room, by its outcome. Assumes nothing.
use Prim.Native.Nat.{ℕ}
use mathlib.Core.Path.{◌≡◌, ap, ◌∙◌}
use mathlib.Core.List.{List, ◌++◌}
use lib.ListN.{length, drop}
use Rattle.answer.specs.declared.Refusal.{Refusal}
use Rattle.answer.specs.Outcome.{Out, refused, ok, on, filled, answered, Fills}
use Rattle.query.specs.declared.ask.Ask.{Ask}
use Rattle.query.specs.Block.{ask_of}
use Rattle.search.specs.Search.{search_of}
use Rattle.viewer.specs.Word.{word_of, Told}
use Rattle.viewer.specs.Calls.{search_call}

module _ {A : Type 0} {o : Out A} {number : A → ℕ} {start : A → List ℕ} {d : List ℕ} where
  -- a refusal is said, and leaves the room
  pub told-refused : (w : Refusal) (x : ℕ) → o ≡ refused w → x ≡ word_of (refused w) → Told o number start d x d
  unfolding on filled
  told-refused w x e p = record { word = p ∙ rw e; room = rw e }

  -- of a value the number is said, and its list stands at the start
  pub told-ok : (a : A) (x : ℕ) (left : List ℕ) → o ≡ ok a → x ≡ number a → left ≡ start a ++ drop (length (start a)) d → Told o number start d x left
  unfolding on filled word_of
  told-ok a x left e p q = record { word = rw e p; room = rw e q }

-- the words of an answer's two cases
pub start_is : (f : Out ℕ) (n : ℕ) → f ≡ ok n → n ≡ word_of (f)
unfolding word_of
start_is f n e = rw e

pub refused-is : (f : Out ℕ) (w : Refusal) (x : ℕ) → f ≡ refused w → x ≡ word_of (refused w) → x ≡ word_of (f)
refused-is f w x e p = p ∙ rw e

-- a service that fills a room, its answer told as a word
pub told-filled : (o : Out (List ℕ)) {d left : List ℕ} (f : Out ℕ) (x : ℕ) → Fills o d f left → x ≡ word_of (f) → Told o length (λ l. l) d x left
unfolding on filled answered
told-filled (refused w) f x q p = record { word = p ∙ ap word_of q.answer; room = q.room }
told-filled (ok l) f x q p = record { word = p ∙ ap word_of q.answer; room = q.room }

-- ---- the search, by what its query's block says

module _ (query file d : List ℕ) (r : Out Ask) (f : r ≡ ask_of query) where
  pub search-unasked : (w : Refusal) (x : ℕ) → r ≡ refused w → x ≡ word_of (refused w) → Told (search_call query file (length d)) length (λ l. l) d x d
  unfolding search_call on
  search-unasked w x e p = told-refused w x (rw (← f, e)) p

  pub search-asked : (a : Ask) (g : Out ℕ) (x : ℕ) (left : List ℕ) → r ≡ ok a → Fills (search_of a file (length d)) d g left → x ≡ word_of g
      → Told (search_call query file (length d)) length (λ l. l) d x left
  unfolding search_call on
  search-asked a g x left e q p = rw (← f, e) (told-filled (search_of a file (length d)) g x q p)
