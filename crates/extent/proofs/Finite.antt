-- Finite patterns: of a choice, of a box. Assumes nothing.
use Rattle.std.proofs.Common.{◌≡◌, ℕ, Bool, true, false, cond, refl}
use Rattle.extent.specs.Rank.{finite, below}
use Rattle.extent.specs.declared.bounds.Bounds.{Bounds}
use Rattle.extent.specs.Boxes.{FiniteBox, four_finite, greater, spot_of}
use Rattle.extent.proofs.Tests.{all-four, four-all}

-- ---- choices

-- a choice of two has what both have
pub chosen : (P : ℕ → Type 0) (t : Bool) (x a : ℕ) → P x → P a → P (cond t x a)
chosen P true x a p q = p
chosen P false x a p q = q

pub greater-has : (P : ℕ → Type 0) (a x : ℕ) → P a → P x → P (greater a x)
unfolding greater
greater-has P a x p q = chosen P (below a x) x a q p

-- ---- boxes

pub finite-box : (p : Bounds) → four_finite p ≡ true → FiniteBox p
unfolding four_finite
finite-box p e =
    let w = all-four (finite p.least_x) (finite p.least_y) (finite p.greatest_x) (finite p.greatest_y) e in
    record { least_x = w.0; least_y = w.1; greatest_x = w.2; greatest_y = w.3 }

pub four-finite : (p : Bounds) → FiniteBox p → four_finite p ≡ true
unfolding four_finite
four-finite p f = four-all _ _ _ _ f.least_x f.least_y f.greatest_x f.greatest_y

abbrev pub IsFinite : ℕ → Type 0
IsFinite b = finite b ≡ true

-- four zeros
pub zeros-finite : FiniteBox (spot_of 0 0)
unfolding finite
zeros-finite = record { least_x = refl; least_y = refl; greatest_x = refl; greatest_y = refl }
