-- The whole output of the listing program, as a function of its whole input: "a line 'place register type' for each hit, then 'hits H of M', M all shapes in
-- the file. A refusal prints one line 'refused R page P'", with column and value behind it for 8, 9 and 10. Assumes nothing.
use Rattle.std.specs.Prelude.{ℕ, List, [], ◌∷◌, ◌++◌, length}
use Rattle.answer.specs.Outcome.{Out, refused, ok}
use Rattle.text.specs.Pieces.{Piece, text_of}
use Rattle.text.specs.Lines.{row, hits_line, refused_line}
use Rattle.list.specs.Listing.{Listing, listing_of}

-- a line for each hit: its place, and the register and the type there
unfoldable pub row_lines : List ℕ → List ℕ → List ℕ → List Piece
row_lines [] registers types = []
row_lines (n ∷ ns) [] types = []
row_lines (n ∷ ns) (r ∷ rs) [] = []
row_lines (n ∷ ns) (r ∷ rs) (t ∷ ts) = row n r t ++ row_lines ns rs ts

-- the rows and the last line, or the refused line alone
unfoldable pub lines_of : Out Listing → List Piece
lines_of (refused w) = refused_line w
lines_of (ok l) = row_lines l.places l.registers l.types ++ hits_line (length l.places) l.shapes

-- what is printed of an input
unfoldable pub printed_of : List ℕ → List ℕ
printed_of input = text_of (lines_of (listing_of input))
