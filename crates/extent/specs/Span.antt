-- The least and the greatest of a list in value, by the patterns as numbers: patterns with sign bit 1 come before all others in value, and go down as
-- their numbers go up. For inner steps; no service speaks of it. Assumes nothing.
use Rattle.std.specs.Prelude.{◌≡◌, ℕ, ◌+◌, ◌-◌, ◌%◌, ◌^◌, Bool, true, cond, List, [], ◌∷◌, ◌==◌, nat_lt}
use Rattle.extent.specs.Rank.{same_value}
use Rattle.extent.specs.Boxes.{least_of, greatest_of}
use Rattle.extent.specs.declared.span.Span.{Span}

-- the lower of two numbers
unfoldable pub lower : ℕ → ℕ → ℕ
lower a v = cond (nat_lt v a) v a

-- the higher of two numbers
unfoldable pub higher : ℕ → ℕ → ℕ
higher a v = cond (nat_lt a v) v a

-- a pattern with its sign bit turned over
unfoldable pub flipped : ℕ → ℕ
flipped b = cond (nat_lt b (2 ^ 63)) (b + 2 ^ 63) (b - 2 ^ 63)

-- of two patterns the one that is higher with its sign bit turned over
unfoldable pub higher_flipped : ℕ → ℕ → ℕ
higher_flipped a v = cond (nat_lt (flipped a) (flipped v)) v a

-- a choice of two, carried through a list
unfoldable pub carried : (ℕ → ℕ → ℕ) → ℕ → List ℕ → ℕ
carried f a [] = a
carried f a (v ∷ vs) = carried f (f a v) vs

-- by the sign bit of b: plus where it is 0, else minus
unfoldable pub by_sign : ℕ → ℕ → ℕ → ℕ
by_sign b plus minus = cond (nat_lt b (2 ^ 63)) plus minus

-- of a list's lowest and highest, and its highest with the sign bit turned over: where a sign bit is 1 the highest is the least, and where a sign bit is 0
-- the highest with it turned over is the greatest; else the lowest is
abbrev pub span_from : ℕ → ℕ → ℕ → Span
span_from low high up = record { least = by_sign high low high; greatest = by_sign low up low }

-- the span of a list; of no value, zero
unfoldable pub span_of : List ℕ → Span
span_of [] = record { least = 0; greatest = 0 }
span_of (v ∷ vs) = span_from (carried lower v vs) (carried higher v vs) (carried higher_flipped v vs)

-- ---- what it is in value

-- the least of a list in value, the first met among equals; of no value, zero
unfoldable pub least_in : List ℕ → ℕ
least_in [] = 0
least_in (v ∷ vs) = least_of v vs

-- the greatest, likewise
unfoldable pub greatest_in : List ℕ → ℕ
greatest_in [] = 0
greatest_in (v ∷ vs) = greatest_of v vs

-- in value s is the least and the greatest of the list
pub record Spans (l : List ℕ) (s : Span) : Type 0 where
  pub least : same_value s.least (least_in l) ≡ true
  pub greatest : same_value s.greatest (greatest_in l) ≡ true

-- ---- of two zeros the first met

-- a zero of either sign
unfoldable pub is_zero : ℕ → Bool
is_zero b = b % 2 ^ 63 == 0

-- the first zero of a list; 0 where there is none
unfoldable pub first_zero : List ℕ → ℕ
first_zero [] = 0
first_zero (v ∷ vs) = cond (is_zero v) v (first_zero vs)

-- the first of a list that is equal in value to b, its least or its greatest: no two patterns are equal in value but the two zeros
unfoldable pub first_as : List ℕ → ℕ → ℕ
first_as l b = cond (is_zero b) (first_zero l) b
