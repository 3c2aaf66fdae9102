-- "Among equal values the writer stores the first met in the page", with no walk over them: least and greatest, by an order and its strict form.
-- Assumes nothing.
use Rattle.std.specs.Prelude.{◌≡◌, ℕ, ◌<◌, true, List, length, slice_index}
use Rattle.extent.specs.Rank.{at_most, below}
use Rattle.extent.specs.declared.bounds.Bounds.{Bounds}

-- the value of a is at most that of b
abbrev pub AtMost : ℕ → ℕ → Type 0
AtMost a b = at_most a b ≡ true

-- it is below that of b
abbrev pub Under : ℕ → ℕ → Type 0
Under a b = below a b ≡ true

-- it is at least that of b
abbrev pub AtLeast : ℕ → ℕ → Type 0
AtLeast a b = at_most b a ≡ true

-- it is above that of b
abbrev pub Above : ℕ → ℕ → Type 0
Above a b = below b a ≡ true

-- v is an element of the list, first by R among all of them, and strictly first among those before it: no earlier one is equal to it in value
pub record Met (R S : ℕ → ℕ → Type 0) (l : List ℕ) (v : ℕ) : Type 0 where
  pub place : ℕ
  pub inside : place < length l
  pub found : v ≡ slice_index l place
  pub best : (i : ℕ) → i < length l → R v (slice_index l i)
  pub first : (i : ℕ) → i < place → S v (slice_index l i)

-- of a box, each of the four is the first met of its least or greatest
pub record Boxed (xs ys : List ℕ) (p : Bounds) : Type 0 where
  pub least_x : Met AtMost Under xs p.least_x
  pub least_y : Met AtMost Under ys p.least_y
  pub greatest_x : Met AtLeast Above xs p.greatest_x
  pub greatest_y : Met AtLeast Above ys p.greatest_y
