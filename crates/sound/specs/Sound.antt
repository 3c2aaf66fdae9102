-- What the program prints of the bytes that it reads: it "gives 3 for its size first, then runs the full check and prints 'sound P pages M shapes' or the refused
-- line". Assumes nothing.
use Rattle.std.specs.Prelude.{ℕ, List, leb, length}
use Rattle.answer.specs.Limits.{most_input}
use Rattle.answer.specs.Table.{many}
use Rattle.answer.specs.Refusal.{because}
use Rattle.answer.specs.Outcome.{Out, refused, ok, need}
use Rattle.frame.specs.declared.walk.Totals.{Totals}
use Rattle.file.specs.Check.{check_of}
use Rattle.text.specs.Pieces.{Piece, text_of}
use Rattle.text.specs.Lines.{refused_line, sound_line}

-- bytes that are read of an input: one more than the largest file takes
abbrev pub most_read : ℕ
most_read = 40961

-- 3 for over 40,960 bytes, else the full check
unfoldable pub judged_of : List ℕ → Out Totals
judged_of s = need (leb (length s) most_input) (because many) (check_of s)

-- how many pages and shapes, or the refusal with its place, as a line
unfoldable pub line_of : Out Totals → List Piece
line_of (refused w) = refused_line w
line_of (ok t) = sound_line t.pages t.shapes

-- the line for the bytes
unfoldable pub sound_of : List ℕ → List Piece
sound_of s = line_of (judged_of s)

-- what is printed of an input: the whole output, as a function of the whole input
unfoldable pub printed_of : List ℕ → List ℕ
printed_of s = text_of (sound_of s)
