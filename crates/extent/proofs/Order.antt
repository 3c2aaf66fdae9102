-- IEEE's `<`, `==` and `<=` of two finite floats are the orders of their patterns' ranks. Assumes nothing.
use Rattle.std.proofs.Common.{◌≡◌, ℕ, ◌%◌, ◌^◌, Bool, true, ◌||◌, leb, ap, ◌∙◌}
use lib.Ieee.{binary64, lt, eq, le, of_bits}
use Rattle.extent.specs.Rank.{rank, finite, at_most, below, same_value}
use Rattle.extent.proofs.Patterns.{lt-bits, eq-bits, finite-size}
use Rattle.extent.proofs.Signs.{below-signed, level-signed, le_split}

-- ---- the floats of two finite patterns
pub lt-rank : (a b : ℕ) → finite a ≡ true → finite b ≡ true → lt (of_bits binary64 a) (of_bits binary64 b) ≡ below a b
unfolding below rank
lt-rank a b p q = lt-bits binary64 a b (finite-size a p) (finite-size b q) ∙ below-signed (leb (2 ^ 63) a) (leb (2 ^ 63) b) (a % 2 ^ 63) (b % 2 ^ 63)

pub eq-rank : (a b : ℕ) → finite a ≡ true → finite b ≡ true → eq (of_bits binary64 a) (of_bits binary64 b) ≡ same_value a b
unfolding same_value rank
eq-rank a b p q = eq-bits binary64 a b (finite-size a p) (finite-size b q) ∙ level-signed (leb (2 ^ 63) a) (leb (2 ^ 63) b) (a % 2 ^ 63) (b % 2 ^ 63)

at-most-split : (a b : ℕ) → (below a b || same_value a b) ≡ at_most a b
unfolding below same_value at_most
at-most-split a b = le_split (rank a) (rank b)

pub le-rank : (a b : ℕ) → finite a ≡ true → finite b ≡ true → le (of_bits binary64 a) (of_bits binary64 b) ≡ at_most a b
unfolding le
le-rank a b p q = ap (λ (x : Bool). x || eq (of_bits binary64 a) (of_bits binary64 b)) (lt-rank a b p q) ∙ ap (λ (x : Bool). below a b || x) (eq-rank a b p q) ∙ at-most-split a b
