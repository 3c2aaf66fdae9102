-- The calls on words and slices, by the services' own definitions. Assumes nothing.
use Rattle.std.specs.Prelude.{ℕ, ◌≡◌, List, []}
use Rattle.answer.specs.Outcome.{Out, on}
use Rattle.query.specs.Block.{ask_of}
use Rattle.search.specs.Search.{search_of}
use Rattle.step.specs.Step.{ValueOrEnd, value, end, step_of}
use Rattle.pageblock.specs.Body.{Handed}
use Rattle.writer.specs.State.{Added, open_of, page_step_of, close_of, buffer_after}
use Rattle.answer.specs.Lent.{LentMut, came_mut, left}
use Rattle.viewer.specs.Word.{Told}
use Rattle.viewer.specs.Four.{four_rule, position_of, position_words, state_of, state_words}

-- ---- the search: the query is exactly its block

-- what the block asks, of the file, with so much room
unfoldable pub search_call : List ℕ → List ℕ → ℕ → Out (List ℕ)
search_call query file room = on (ask_of query) (λ a. search_of a file room)

-- ---- one value of a column

-- fewer than four words is 2; else the call at the position that they are
unfoldable pub step_call : List ℕ → ℕ → List ℕ → Out ValueOrEnd
step_call column n words = on (four_rule words) (λ _. step_of 64 column n (position_of words))

-- it says 1 with a value, 0 at the end
unfoldable pub gives : ValueOrEnd → ℕ
gives (value v p) = 1
gives end = 0

-- with a value the words are the next position; at the end nothing is put
unfoldable pub moves : ValueOrEnd → List ℕ
moves (value v p) = position_words p
moves end = []

-- ---- the writer, for a buffer of so many bytes

-- fewer than four words is 2; else open
unfoldable pub open_call : List ℕ → ℕ → Out Added
open_call words room = on (four_rule words) (λ _. open_of room)

-- fewer than four words is 2; else a page, at the state that they are
unfoldable pub page_call : List ℕ → ℕ → Handed → Out Added
page_call words room i = on (four_rule words) (λ _. page_step_of (state_of words) room i)

-- fewer than four words is 2; else the end, at the state that they are
unfoldable pub close_call : List ℕ → ℕ → Out Added
close_call words room = on (four_rule words) (λ _. close_of (state_of words) room)

-- the words of the next state
unfoldable pub next_words : Added → List ℕ
next_words a = state_words a.next

-- the contract of such a call: it says 0, the words are the next state, and the buffer is as the step leaves it
pub record Kept (o : Out Added) (words d : List ℕ) (says : ℕ) (next left : List ℕ) : Type 0 where
  pub told : Told o (λ _. 0) next_words words says next
  pub buffer : left ≡ buffer_after o d

-- the same, of words and a buffer that are lent
abbrev pub KeptIn : Out Added → LentMut → LentMut → ℕ → Type 0
KeptIn o words buffer says = Kept o (came_mut words) (came_mut buffer) says (left words) (left buffer)
