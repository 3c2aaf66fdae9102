-- A shape goes by the table of types: "limits are one small table that writer and checker share". Assumes nothing.
use Rattle.std.specs.Prelude.{◌≤◌, ◌≡◌, true, List, [], ◌∷◌, length}
use Rattle.types.specs.Types.{last_type, type_row}
use Rattle.types.specs.Parts.{total, fits, lengths_fit}
use Rattle.shape.specs.Outline.{Outline, Shape}

-- a type of the table; as many parts, and as many vertices in each, as its row says; and as many vertices as its parts have
pub record Obeys (o : Outline) : Type 0 where
  pub known : o.kind ≤ last_type
  pub parts : fits (type_row o.kind).least_parts (type_row o.kind).most_parts (length o.lens) ≡ true
  pub lengths : lengths_fit (type_row o.kind) o.lens ≡ true
  pub x_count : length o.xs ≡ total o.lens
  pub y_count : length o.ys ≡ total o.lens

-- each shape does
pub data AllObey : List Shape → Type 0 where
  none : AllObey []
  more : {s : Shape} {ss : List Shape} → Obeys s.outline → AllObey ss → AllObey (s ∷ ss)
