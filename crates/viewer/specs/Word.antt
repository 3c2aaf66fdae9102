-- Answers as one word, for C: bits 0 to 31 the number, or the page of a refusal; bits 32 to 39 the refusal's number, 0 if none; bits 40 and 41 its
-- column, bits 42 to 53 its index. Assumes nothing.
use Rattle.std.specs.Prelude.{ℕ, ◌+◌, ◌*◌, ◌^◌, ◌≡◌, List}
use Rattle.answer.specs.Outcome.{Out, refused, ok, on, filled}
use Rattle.answer.specs.Lent.{LentMut, came_mut, left}

-- a number below 2 ^ 32, or a refusal
unfoldable pub word_of : Out ℕ → ℕ
word_of (ok n) = n
word_of (refused w) = w.index * 2 ^ 42 + w.column * 2 ^ 40 + w.number * 2 ^ 32 + w.page

-- the contract of a call that fills the start of a lent room which held d: of the outcome's value the word says that number, and the room has that
-- list at its start; a refusal is said whole, and leaves the room
pub record Told {A : Type 0} (o : Out A) (number : A → ℕ) (start : A → List ℕ) (d : List ℕ) (says : ℕ) (left : List ℕ) : Type 0 where
  pub word : says ≡ word_of (on o (λ a. ok (number a)))
  pub room : left ≡ filled (on o (λ a. ok (start a))) d

-- the same, of a room that is lent
abbrev pub ToldIn : {A : Type 0} → Out A → (A → ℕ) → (A → List ℕ) → LentMut → ℕ → Type 0
ToldIn o number start room says = Told o number start (came_mut room) says (left room)
