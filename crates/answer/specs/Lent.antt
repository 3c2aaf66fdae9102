-- A slice that a call is lent: as it comes, and as the call leaves it. Assumes nothing.
use Rattle.std.specs.Prelude.{ℕ, List}
use Rattle.std.specs.Borrow.{Bor, MutBor}
use denote.Triple.Both.{Both}
use Rattle.answer.specs.Outcome.{Out, Fills}

-- both, of a slice that is lent to be read
abbrev pub Lent : Type 0
Lent = Both (Bor (List ℕ)) (Bor (List ℕ))

-- both, of a slice that is lent to be written to
abbrev pub LentMut : Type 0
LentMut = Both (MutBor (List ℕ)) (MutBor (List ℕ))

-- what came
abbrev pub came : Lent → List ℕ
came x = x.entry.now

-- what came in a room
abbrev pub came_mut : LentMut → List ℕ
came_mut x = x.entry.now

-- what is left
abbrev pub left : LentMut → List ℕ
left x = x.exit.now

-- what a call says, and leaves in a room that it is lent, are those of the outcome o
abbrev pub FillsIn : Out (List ℕ) → LentMut → Out ℕ → Type 0
FillsIn o room says = Fills o (came_mut room) says (left room)
