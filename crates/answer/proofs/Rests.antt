-- Laws of a walk over all of a list but the first. Assumes nothing.
use Rattle.std.proofs.Common.{◌≡◌, ℕ, ◌+◌, ◌-◌, ◌<◌, ◌≤◌, List, [], ◌∷◌, length, get_or, take, drop, arith, length-take, length-drop}
use Rattle.std.proofs.lemmas.Grind.{common_steps}

-- what stands at place k of the rest stands one place further on in the list
pub rest_at : (l : List ℕ) (k : ℕ) → k < length (take (length l - 1) (drop 1 l)) → (k + 1 < length l) × (get_or (take (length l - 1) (drop 1 l)) k 0 ≡ get_or l (k + 1) 0)
rest_at (a ∷ l) k h = (omega (arith, length-take {A = ℕ}), grind (arith, common_steps))
rest_at [] k h = absurd (omega (arith, length-take {A = ℕ}))

-- where the rest ends the list does
pub rest_end : (l : List ℕ) (k : ℕ) → length (take (length l - 1) (drop 1 l)) ≤ k → length l ≤ k + 1
rest_end l k h = omega (arith, length-take {A = ℕ}, length-drop {A = ℕ})
