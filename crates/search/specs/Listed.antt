-- Whether a place is listed. Assumes nothing.
use Rattle.std.specs.Prelude.{ℕ, Bool, false, ◌||◌, List, [], ◌∷◌, eqb}

-- it is one of them
unfoldable pub listed : ℕ → List ℕ → Bool
listed p [] = false
listed p (q ∷ l) = eqb p q || listed p l
