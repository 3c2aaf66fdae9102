-- Where in a page a refusal is. "Column reading shall also give the index of the value it was working on when it refused: 0 for 8, N for bytes left over or
-- fill bits, otherwise the value that lacked bits. Page contents, full check, search and fetch pass it on with the column, x or y; other refusals give
-- index 0 and no column." Said by the places where values end, with no walk. Assumes nothing.
use Rattle.std.specs.Prelude.{ℕ, zero, suc, ◌*◌, ◌^◌, ◌≤◌, ◌<◌, ◌≡◌, Bool, true, ◌&&◌, ◌||◌, cond, List, [], ◌∷◌, eqb, length, get_or}
use Rattle.answer.specs.Axis as Axis
use Rattle.answer.specs.Table as Table
use Rattle.answer.specs.declared.Refusal.{Refusal}
use Rattle.answer.specs.Refusal.{on_column}
use Rattle.answer.specs.Outcome.{refused, ok}
use Rattle.le.specs.Number.{number}
use Rattle.column.specs.Column.{whole}
use Rattle.column.specs.Read.{end_of, decode_of}
use Rattle.frame.specs.declared.head.Head.{Head}
use Rattle.types.specs.Parts.{parts_rule}
use Rattle.page.specs.Contents.{types_of, counts_of, lens_of, x_part, y_part}
use Rattle.search.specs.Listed.{listed}
use Rattle.promises.specs.Numbers as numbers

-- the bit at which n values of the column s end: width, first pattern and entries; 0 for none
abbrev pub end_at : ℕ → List ℕ → ℕ → ℕ
end_at P s zero = 0
end_at P s (suc k) = end_of P s (suc k)

-- what the index of a refusal w says of the bytes s, which are to hold n values
pub data Indexed (P : ℕ) (s : List ℕ) (n : ℕ) (w : Refusal) : Type 0 where
  -- 3 and 2: no value
  no_value : listed w.number (3 ∷ 2 ∷ []) ≡ true → w.index ≡ 0 → Indexed P s n w
  -- 8: 0
  too_wide : w.number ≡ Table.width → w.index ≡ 0 → P < get_or s 0 0 → Indexed P s n w
  -- 9, and index 0: the width and the first pattern are not both there in full
  lacks_first : w.number ≡ Table.bits → w.index ≡ 0 → 0 < n → 8 * length s < end_at P s 1 → Indexed P s n w
  -- 9, and 0 < i < N: they and the entries of values 1 to i - 1 are there in full, and the entry of value i is not
  lacks_later : w.number ≡ Table.bits → 0 < w.index → w.index < n → end_at P s w.index ≤ 8 * length s → 8 * length s < end_at P s (suc w.index)
      → Indexed P s n w
  -- 9, and N: all values are there in full, and a whole byte is left over
  left_over : w.number ≡ Table.bits → w.index ≡ n → end_at P s n ≤ 8 * length s → whole (end_at P s n) < length s → Indexed P s n w
  -- 10, and N: all values are there in full and end in the last byte, where a bit behind them is not zero
  filled : w.number ≡ Table.fill → w.index ≡ n → whole (end_at P s n) ≡ length s → 2 ^ end_at P s n ≤ number s → Indexed P s n w

-- which column of a page its contents are refused for: none, by 11 or 12 to 16; x where the tables pass and the x column is refused; y where the x
-- column is read besides and the y column is refused. The refusal is the column's own, with its index
pub data InColumns (h : Head) (b : List ℕ) (w : Refusal) : Type 0 where
  neither : listed w.number (11 ∷ 12 ∷ 13 ∷ 14 ∷ 15 ∷ 16 ∷ []) ≡ true → w.column ≡ Axis.none → w.index ≡ 0 → InColumns h b w
  in_x : w.column ≡ Axis.x → parts_rule (types_of h b) (counts_of h b) (lens_of h b) h.v ≡ ok tt → decode_of 64 (x_part h b) h.v ≡ refused (on_column Axis.none w)
      → InColumns h b w
  in_y : (xs : List ℕ) → w.column ≡ Axis.y → parts_rule (types_of h b) (counts_of h b) (lens_of h b) h.v ≡ ok tt → decode_of 64 (x_part h b) h.v ≡ ok xs
      → decode_of 64 (y_part h b) h.v ≡ refused (on_column Axis.none w) → InColumns h b w

-- over a file: 8, 9 and 10 name a column, x or y, and no other number does; then the index is 0 too
abbrev pub named : Refusal → Bool
named w =
    cond (listed w.number numbers.column_bits)
    (eqb w.column Axis.x || eqb w.column Axis.y)
    (eqb w.column Axis.none && eqb w.index 0)
