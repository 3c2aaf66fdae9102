-- Spots, by computation: one at (-0, 0) meets a shape and a page at 0, since both zeros are equal; one at a NaN or an infinity is not good. Numbers
-- are written by their patterns. Assumes nothing.
use mathlib.Core.Path.{◌≡◌, refl}
use mathlib.Core.Bool.{Bool, true, false}
use mathlib.Core.List.{List, [], ◌∷◌}
use Prim.Native.Nat.{ℕ, ◌^◌}
use lib.Ieee.{Float, nan, inf, binary64, of_bits, to_bits}
use Rattle.extent.specs.Rank.{rank, finite, at_most, below}
use Rattle.extent.specs.Boxes.{meets, spot_of, lesser, greater, least_of, greatest_of, box_of}
use Rattle.query.specs.declared.ask.Ask.{Ask}
use Rattle.query.specs.declared.ask.Query.TheVariants.{Spot}
use Rattle.query.specs.Ask.{good_query, reach_of, stored, in_window, touches, hit, opens}

abbrev spot : ℕ → ℕ → Ask
spot x y = record { query = Spot (of_bits binary64 x) (of_bits binary64 y) }

-- the pattern of 10
abbrev ten : ℕ
ten = 4621819117588971520

-- the sample's first shape: (0,0) (0,10) (10,10) (10,0) (0,0)
abbrev ring_x : List ℕ
ring_x = 0 ∷ 0 ∷ ten ∷ ten ∷ 0 ∷ []

abbrev ring_y : List ℕ
ring_y = 0 ∷ ten ∷ ten ∷ 0 ∷ 0 ∷ []

pub zero-meets-shape : hit (spot (2 ^ 63) 0) ring_x ring_y ≡ true
unfolding hit touches in_window reach_of meets box_of least_of greatest_of lesser greater below at_most rank of_bits to_bits
zero-meets-shape = refl

pub zero-opens-page : opens (spot (2 ^ 63) 0) 5 (spot_of 0 0) ≡ true
unfolding opens touches in_window stored meets at_most rank of_bits to_bits
zero-opens-page = refl

-- not finite: refused, and never compared
pub nan-not-good : (y : Float) → good_query (Spot nan y) ≡ false
unfolding good_query to_bits finite
nan-not-good y = refl

pub infinity-not-good : (s : Bool) (y : Float) → good_query (Spot (inf s) y) ≡ false
unfolding good_query to_bits finite
infinity-not-good true y = refl
infinity-not-good false y = refl
