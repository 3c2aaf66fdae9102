-- The n-th of some shapes: 17 is "no shape at that place". Assumes nothing.
use Rattle.std.specs.Prelude.{ℕ, zero, suc, List, [], ◌∷◌}
use Rattle.answer.specs.Table as table
use Rattle.answer.specs.Refusal.{because}
use Rattle.answer.specs.Outcome.{Out, refused, ok}
use Rattle.shape.specs.Outline.{Shape}

-- the n-th of some shapes, from 0
unfoldable pub shape_at : ℕ → List Shape → Out Shape
shape_at n [] = refused (because table.place)
shape_at zero (x ∷ l) = ok x
shape_at (suc n) (x ∷ l) = shape_at n l
