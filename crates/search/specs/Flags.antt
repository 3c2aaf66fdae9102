-- Places as the bits of one number, bit k for place k: the bytes that hold it are the flags. Assumes nothing.
use Rattle.std.specs.Prelude.{ℕ, zero, suc, ◌+◌, ◌*◌, ◌/◌, ◌%◌, ◌^◌, ◌≤◌, ◌<◌, ◌≡◌, Bool, cond, List, [], ◌∷◌, length, eqb}
use Rattle.le.specs.Number.{number}

-- the number with a bit for each of these places
unfoldable pub bits_of : List ℕ → ℕ
bits_of [] = 0
bits_of (p ∷ ps) = 2 ^ p + bits_of ps

-- the places of the m low bits of x that are set, where the lowest bit is that of place n
unfoldable pub places_in : ℕ → ℕ → ℕ → List ℕ
places_in n zero x = []
places_in n (suc m) x = cond (eqb (x % 2) 1) (n ∷ places_in (suc n) m (x / 2)) (places_in (suc n) m (x / 2))

-- a place, or none
abbrev pub only_place : Bool → ℕ → List ℕ
only_place b n = cond b (n ∷ []) []

-- x, or nothing
abbrev pub only_if : Bool → ℕ → ℕ
only_if b x = cond b x 0

-- flags with no bit from place n on, which reach to a place: x is added to them
pub record Adds (d e : List ℕ) (n to x : ℕ) : Type 0 where
  pub added : to ≤ 8 * length d → number d < 2 ^ n → number e ≡ number d + x
