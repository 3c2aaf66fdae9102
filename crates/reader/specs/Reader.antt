-- A thing that holds a column's bytes, how many values they are to hold, and a position: what a new one is, what it answers, and a run of its
-- answers. Assumes nothing.
use Rattle.std.specs.Prelude.{ℕ, zero, suc, List, []}
use Rattle.std.specs.Borrow.{Bor}
use Rattle.column.specs.declared.Position.{Position}
use Rattle.step.specs.declared.Answer.{Answer}
use Rattle.step.specs.Step.{position, step_of, answer_with}
use Rattle.step.specs.Run.{Run, follow}
use Rattle.reader.specs.declared.Reader.{Reader}

-- a fresh position: none given
abbrev pub fresh : Position
fresh = position 0 0 0 0

-- a new reader holds the bytes and the number that it is given, at a fresh position
abbrev pub new_reader : Bor (List ℕ) → ℕ → Reader
new_reader s n = record { src = s; n = n; pos = fresh }

-- the same bytes and number, at another position
abbrev pub moved_to : Reader → Position → Reader
moved_to r p = record { src = r.src; n = r.n; pos = p }

-- what a reader answers: the step, on the bytes that it holds
abbrev pub reader_answer : Reader → Answer
reader_answer r = answer_with r.pos (step_of 64 r.src.now r.n r.pos)

-- a run of answers, of at most so many values: each is that of the reader moved to the position that the one before handed back
unfoldable pub reader_run : ℕ → Reader → Run
reader_run zero r = record { got = []; last = reader_answer r }
reader_run (suc most) r = follow (reader_answer r) (λ p. reader_run most (moved_to r p))
