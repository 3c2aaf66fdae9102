-- Laws of lists whose numbers are of so many bits. Assumes nothing.
use Prim.Native.Nat.{ℕ, zero, suc, ◌^◌, ◌<◌}
use mathlib.Core.List.{List, [], ◌∷◌}
use lib.ListN.{drop}
use lib.Pow.{pow_pos}
use Rattle.le.specs.Number.{Fits}

pub fits-none : (P : ℕ) → Fits P []
fits-none P i = pow_pos P

pub fits_more : (P v : ℕ) (vs : List ℕ) → v < 2 ^ P → Fits P vs → Fits P (v ∷ vs)
fits_more P v vs h b zero = h
fits_more P v vs h b (suc i) = b i

-- those behind the first k
pub fits-drop : (P k : ℕ) (vs : List ℕ) → Fits P vs → Fits P (drop k vs)
fits-drop P zero vs h = h
fits-drop P (suc k) [] h = h
fits-drop P (suc k) (v ∷ vs) h = fits-drop P k vs (λ i. h (suc i))
