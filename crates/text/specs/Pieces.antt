-- A text is a list of pieces: words, and numbers in decimal. Letters are their ASCII codes. Assumes nothing.
use Rattle.std.specs.Prelude.{ℕ, ◌+◌, ◌≡◌, List, [], ◌∷◌, ◌++◌, length}
use Prim.Native.Char.{code}
use Prim.Native.String.{String, [] as no_words, ◌∷◌ as ◌then◌}
use Rattle.std.proofs.lemmas.List.Edits.{sets}
use Rattle.text.specs.Decimal.{decimal}

-- a piece of a text: words, as they stand, or a number
pub data Piece : Type 0 where
  words : List ℕ → Piece
  number : ℕ → Piece

-- words, letter by letter
unfoldable pub codes : String → List ℕ
codes no_words = []
codes (c then s) = code c ∷ codes s

-- the bytes of a piece
unfoldable pub piece_bytes : Piece → List ℕ
piece_bytes (words l) = l
piece_bytes (number n) = decimal n

-- the text of pieces: one behind the other
unfoldable pub text_of : List Piece → List ℕ
text_of [] = []
text_of (p ∷ ps) = piece_bytes p ++ text_of ps

-- the most bytes that pieces can take: 20 for a number
unfoldable pub most : List Piece → ℕ
most [] = 0
most (words l ∷ ps) = length l + most ps
most (number n ∷ ps) = 20 + most ps

-- pieces that are put from a place on into a room that held d: the next thing goes behind their text, and the rest of the room stands as it was
pub record Puts (d : List ℕ) (at : ℕ) (ps : List Piece) (r : ℕ) (left : List ℕ) : Type 0 where
  pub next : r ≡ at + length (text_of ps)
  pub room : left ≡ sets d at (text_of ps)
