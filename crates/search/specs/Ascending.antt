-- Places in strictly ascending order. Assumes nothing.
use Rattle.std.specs.Prelude.{ℕ, suc, ◌≤◌, ◌<◌, List, [], ◌∷◌}

-- none is below n, each is greater than the one before it, and all are below to
pub data Ascending (to : ℕ) : ℕ → List ℕ → Type 0 where
  none : {n : ℕ} → Ascending to n []
  more : {n p : ℕ} {l : List ℕ} → n ≤ p → p < to → Ascending to (suc p) l → Ascending to n (p ∷ l)
