-- A call that tests a part, for the one inner walk over the parts of a shape; no service speaks of it. Assumes nothing.
use Rattle.std.specs.Prelude.{ℕ, Bool, List, ◌≡◌}
use Rattle.std.specs.Borrow.{Bor}
use Rattle.std.specs.Fn.{Shared}
use Rattle.shape.specs.Outline.{Part, part_with}

-- what a call of f gives at a part's x and y is what the test says of the part
pub record Tests {F : Type 0} (g : Shared F (Bor (List ℕ) × (Bor (List ℕ) × Unit {0})) Bool) (f : F) (test : Part → Bool) : Type 0 where
  pub says : (x y : Bor (List ℕ)) (r : Bool) → g.post f (x, (y, tt)) r → r ≡ test (part_with x.now y.now)
