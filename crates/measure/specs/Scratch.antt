-- A decoding that judges its room first, as a read does: 3, 2, and then into the room itself. Assumes nothing.
use Rattle.std.specs.Prelude.{ℕ, cond, List, length, nat_le}
use Rattle.answer.specs.Limits.{vertex_limit}
use Rattle.column.specs.Read.{scratch_of}

-- what is left in a room that held d: a refusal by 3 or 2 changes nothing, any other leaves what a decoding leaves
unfoldable pub scratch_left : ℕ → List ℕ → ℕ → List ℕ → List ℕ
scratch_left P s n d =
    cond (nat_le n vertex_limit)
    (cond (nat_le n (length d)) (scratch_of P s n d) d)
    d
