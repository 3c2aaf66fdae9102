-- Rule 11: no type over 6, and part counts and lengths go by the table and the sums. A page has a list of types, one of part counts, one of
-- part lengths, and a number of vertices. Assumes nothing.
use Rattle.std.specs.Prelude.{ℕ, ◌+◌, Bool, true, false, ◌&&◌, List, [], ◌∷◌, leb, eqb, length, take, drop}
use Rattle.answer.specs.Table.{parts}
use Rattle.answer.specs.Outcome.{Out}
use Rattle.answer.specs.Rule.{rule}
use Rattle.types.specs.declared.rows.TypeRow.{TypeRow}
use Rattle.answer.specs.All.{all_of}
use Rattle.types.specs.Types.{last_type, type_row}

-- the sum
unfoldable pub total : List ℕ → ℕ
total [] = 0
total (n ∷ ns) = n + total ns

-- from least to most
unfoldable pub fits : ℕ → ℕ → ℕ → Bool
fits least most n = leb least n && leb n most

-- each part has as many vertices as the row says
unfoldable pub lengths_fit : TypeRow → List ℕ → Bool
lengths_fit r lens = all_of (fits r.least_vertices r.most_vertices) lens

-- c parts, and each of them, go by a row; the parts are there, the first of those left
unfoldable pub row_agrees : TypeRow → ℕ → List ℕ → Bool
row_agrees r c lens = fits r.least_parts r.most_parts c && (leb c (length lens) && lengths_fit r (take c lens))

-- a shape of type t with c parts goes by the table
unfoldable pub shape_agrees : ℕ → ℕ → List ℕ → Bool
shape_agrees t c lens = leb t last_type && row_agrees (type_row t) c lens

-- shape by shape, each with its own parts, and no part left
unfoldable pub parts_agree : List ℕ → List ℕ → List ℕ → Bool
parts_agree [] [] [] = true
parts_agree [] [] (n ∷ ns) = false
parts_agree [] (c ∷ cs) lens = false
parts_agree (t ∷ ts) [] lens = false
parts_agree (t ∷ ts) (c ∷ cs) lens = shape_agrees t c lens && parts_agree ts cs (drop c lens)

-- and the parts' lengths make up the vertices
unfoldable pub parts_hold : List ℕ → List ℕ → List ℕ → ℕ → Bool
parts_hold types counts lens v = parts_agree types counts lens && eqb (total lens) v

-- 11
unfoldable pub parts_rule : List ℕ → List ℕ → List ℕ → ℕ → Out (Unit {0})
parts_rule types counts lens v = rule (parts_hold types counts lens v) parts
