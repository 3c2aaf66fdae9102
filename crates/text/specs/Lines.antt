-- The programs' lines, in document 01's words, each with the end of the line behind it. Assumes nothing.
use Rattle.std.specs.Prelude.{ℕ, cond, List, [], ◌∷◌, ◌++◌, eqb}
use Rattle.answer.specs.Axis as Axis
use Rattle.answer.specs.declared.Refusal.{Refusal}
use Rattle.text.specs.Pieces.{Piece, words, number, codes}

-- "place register type"
unfoldable pub row : ℕ → ℕ → ℕ → List Piece
row place register kind = number place ∷ words (codes " ") ∷ number register ∷ words (codes " ") ∷ number kind ∷ words (codes "\n") ∷ []

-- "hits H of M"
unfoldable pub hits_line : ℕ → ℕ → List Piece
hits_line hits shapes = words (codes "hits ") ∷ number hits ∷ words (codes " of ") ∷ number shapes ∷ words (codes "\n") ∷ []

-- the words for a column of a page
unfoldable pub column_words : ℕ → List ℕ
column_words column = cond (eqb column Axis.x) (codes " column x value ") (codes " column y value ")

-- " column x value I" (or y); nothing where no column is named
unfoldable pub where_words : ℕ → ℕ → List Piece
where_words column index = cond (eqb column Axis.none) [] (words (column_words column) ∷ number index ∷ [])

-- "refused R page P", and behind it where in the page
unfoldable pub refused_line : Refusal → List Piece
refused_line w =
    words (codes "refused ") ∷ number w.number ∷ words (codes " page ") ∷ number w.page
    ∷ (where_words w.column w.index ++ (words (codes "\n") ∷ []))

-- "sound P pages M shapes"
unfoldable pub sound_line : ℕ → ℕ → List Piece
sound_line pages shapes = words (codes "sound ") ∷ number pages ∷ words (codes " pages ") ∷ number shapes ∷ words (codes " shapes\n") ∷ []
