-- A position and a writer's state as four words. Words behind the fourth mean nothing. Assumes nothing.
use Rattle.std.specs.Prelude.{ℕ, ◌-◌, ◌^◌, Bool, not, cond, List, [], ◌∷◌, leb, eqb, length, get_or}
use Rattle.answer.specs.Table as table
use Rattle.answer.specs.Outcome.{Out}
use Rattle.answer.specs.Rule.{rule}
use Rattle.column.specs.declared.Position.{Position}
use Rattle.step.specs.Step.{position}
use Rattle.writer.specs.declared.Writer.{Writer}
use Rattle.writer.specs.State.{state_with}

-- 2: fewer than four words
unfoldable pub four_rule : List ℕ → Out (Unit {0})
four_rule ws = rule (leb 4 (length ws)) table.room

-- ---- a position: bit place, values given, width, last value

-- the position that four words are
unfoldable pub position_of : List ℕ → Position
position_of ws = position (get_or ws 0 0) (get_or ws 1 0) (get_or ws 2 0) (get_or ws 3 0)

-- a position as four words
unfoldable pub position_words : Position → List ℕ
position_words p = p.at ∷ p.given ∷ p.width ∷ p.last ∷ []

-- ---- a writer's state: position, pages, shapes, closed

-- pages and shapes have 32 bits: a word above is taken as the greatest such number, which is over every limit as the word is
unfoldable pub capped_count : ℕ → ℕ
capped_count word = cond (leb word (2 ^ 32 - 1)) word (2 ^ 32 - 1)

-- the state that four words are: closed is any word but 0
unfoldable pub state_of : List ℕ → Writer
state_of ws = state_with (get_or ws 0 0) (capped_count (get_or ws 1 0)) (capped_count (get_or ws 2 0)) (not (eqb (get_or ws 3 0) 0))

-- closed is handed back as 1
unfoldable pub flag_of : Bool → ℕ
flag_of closed = cond closed 1 0

-- a state as four words
unfoldable pub state_words : Writer → List ℕ
state_words st = st.position ∷ st.pages ∷ st.shapes ∷ flag_of st.closed ∷ []
