-- The worked numbers of document 01 that are marked P, as one list of rows. Assumes nothing.
use Rattle.std.specs.Prelude.{ℕ, ◌+◌, ◌-◌, ◌*◌, ◌^◌, ◌≡◌, List, [], ◌∷◌, ◌++◌, length, replicate}
use Rattle.answer.specs.Table as Table
use Rattle.answer.specs.Refusal.{because, at_value}
use Rattle.answer.specs.Outcome.{Out, refused, ok}
use Rattle.entry.specs.Step.{z_of, marker}
use Rattle.entry.specs.Fields.{bits}
use Rattle.width.specs.Width.{zs_of, column_size, width_of}
use Rattle.column.specs.Column.{column_at}
use Rattle.column.specs.Write.{write_of}
use Rattle.column.specs.Read.{read_of}

-- a row of the table
pub data Row : Type 0 where
  -- these values are written as these bytes
  writes : List ℕ → List ℕ → Row
  -- the step from the first to the second has this z
  steps : ℕ → ℕ → ℕ → Row
  -- the marker of this width
  marks : ℕ → ℕ → Row
  -- these values take this width
  takes : List ℕ → ℕ → Row
  -- and so many bits
  sizes : List ℕ → ℕ → Row
  -- of these values column_size is the same at two widths
  ties : List ℕ → ℕ → ℕ → Row
  -- these bytes, read as so many values, come to this
  reads : List ℕ → ℕ → Out (List ℕ) → Row

-- what a row says of the definitions; a room is as long as need be
abbrev pub RowHolds : Row → Type 0
RowHolds (writes vs s) = write_of 64 vs (length s) ≡ ok s
RowHolds (steps a v z) = z_of 64 a v ≡ z
RowHolds (marks n m) = marker n ≡ m
RowHolds (takes vs n) = width_of 64 vs ≡ n
RowHolds (sizes vs k) = bits (column_at 64 (width_of 64 vs) vs) ≡ k
RowHolds (ties vs n m) = column_size 64 (zs_of 64 vs) n ≡ column_size 64 (zs_of 64 vs) m
RowHolds (reads s n o) = read_of 64 s n n ≡ o

-- each row holds
pub data EachHolds : List Row → Type 0 where
  last : EachHolds []
  then : {r : Row} {rs : List Row} → RowHolds r → EachHolds rs → EachHolds (r ∷ rs)

-- eight zero bytes
abbrev pub 00x8 : List ℕ
00x8 = replicate 8 0

-- the pattern of 1.0
abbrev pub one : ℕ
one = 1023 * 2 ^ 52

-- the rows, in the document's order; b is any byte
abbrev pub worked_rows : ℕ → List Row
worked_rows b =
    writes [] []
    ∷ reads (b ∷ []) 0 (refused (because Table.bits))
    ∷ writes (0 ∷ []) (0 ∷ 00x8)
    ∷ writes (0 ∷ 1 ∷ []) (2 ∷ 00x8 ++ (2 ∷ []))
    ∷ writes (replicate 5 one) (1 ∷ 0 ∷ 0 ∷ 0 ∷ 0 ∷ 0 ∷ 0 ∷ 0xF0 ∷ 0x3F ∷ 0 ∷ [])
    ∷ steps 0 (2 ^ 64 - 1) 1
    ∷ writes (0 ∷ (2 ^ 64 - 1) ∷ []) (2 ∷ 00x8 ++ (1 ∷ []))
    ∷ marks 1 1
    ∷ writes (0 ∷ 2 ^ 40 ∷ (2 ^ 40 + 1) ∷ []) (2 ∷ 00x8 ++ (3 ∷ 0 ∷ 0 ∷ 0 ∷ 0 ∷ 4 ∷ 0 ∷ 0 ∷ 8 ∷ []))
    ∷ takes (0 ∷ (2 ^ 62 - 1) ∷ []) 63
    ∷ sizes (0 ∷ (2 ^ 62 - 1) ∷ []) 135
    ∷ ties (2 ^ 62 ∷ 0 ∷ []) 0 64
    ∷ takes (2 ^ 62 ∷ 0 ∷ []) 0
    ∷ sizes (2 ^ 62 ∷ 0 ∷ []) 136
    ∷ steps 0 (2 ^ 63) (2 ^ 64 - 1)
    ∷ takes (0 ∷ 2 ^ 63 ∷ []) 0
    ∷ reads (3 ∷ 00x8 ++ (2 ∷ [])) 2 (ok (0 ∷ 1 ∷ []))
    ∷ reads (2 ∷ 00x8 ++ (6 ∷ [])) 2 (refused (at_value 2 (because Table.fill)))
    ∷ reads (0x41 ∷ 00x8 ++ (0 ∷ [])) 2 (refused (because Table.width))
    ∷ reads (2 ∷ 00x8) 2 (refused (at_value 1 (because Table.bits)))
    ∷ []
