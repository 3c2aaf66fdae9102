-- A box that comes as four patterns, good if they are finite and not reversed; and the box of vertices in value. Assumes nothing.
use Rattle.std.specs.Prelude.{◌≡◌, ℕ, Bool, true, false, cond, ◌&&◌, T, List, from_bits}
use Rattle.std.specs.Float.{binary64}
use Rattle.std.specs.Float.Ieee.{fits}
use Rattle.extent.specs.Rank.{finite, all_finite, at_most}
use Rattle.extent.specs.declared.bounds.Bounds.{Bounds}
use Rattle.extent.specs.Boxes.{FiniteBox, patterns, good_form, same_box, box_of}
use Rattle.extent.specs.Span.{span_of}
use Rattle.extent.specs.declared.boxes.Box.{Box}
use Rattle.std.specs.declared.option.Option.{Option}
use Rattle.std.specs.declared.option.Option.TheVariants.{Some, None}
use Rattle.extent.specs.declared.span.Span.{Span}

-- the box of four patterns
abbrev pub floats_of : Bounds → Box
floats_of p = record {
  least_x = from_bits binary64 p.least_x;
  least_y = from_bits binary64 p.least_y;
  greatest_x = from_bits binary64 p.greatest_x;
  greatest_y = from_bits binary64 p.greatest_y;
}

-- b is the box of four patterns, and has these patterns
abbrev pub Made : Bounds → Box → Type 0
Made p b = (b ≡ floats_of p) × (patterns b ≡ p)

-- each of the four is a 64-bit float, as those of each box that a program holds are
pub record FitsBox (b : Box) : Type 0 where
  pub least_x : T (fits binary64 b.least_x)
  pub least_y : T (fits binary64 b.least_y)
  pub greatest_x : T (fits binary64 b.greatest_x)
  pub greatest_y : T (fits binary64 b.greatest_y)

-- the box, if it is of good form, for inner steps; no service speaks of it
unfoldable pub form_of : Bounds → Option Box
form_of p = cond (good_form p) (Some (floats_of p)) None

-- along one axis: both are finite, and least ≤ greatest
unfoldable pub good_axis : ℕ → ℕ → Bool
good_axis least greatest = finite least && finite greatest && at_most least greatest

-- ---- the box of vertices in value, for inner steps; no service speaks of it

-- the bounds of a span of x and a span of y
abbrev pub bounds_from : Span → Span → Bounds
bounds_from x y = record { least_x = x.least; least_y = y.least; greatest_x = x.greatest; greatest_y = y.greatest }

-- b is in value the box of the vertices, with the patterns that their spans have
pub record ValueBox (xs ys : List ℕ) (b : Box) : Type 0 where
  pub spanned : patterns b ≡ bounds_from (span_of xs) (span_of ys)
  pub good : FiniteBox (patterns b)
  pub in_value : same_box (patterns b) (box_of xs ys) ≡ true

-- all coordinates are finite, and their box is there; or else none is
abbrev pub ValueForm : List ℕ → List ℕ → Option Box → Type 0
ValueForm xs ys (Some b) = ((all_finite xs && all_finite ys) ≡ true) × ValueBox xs ys b
ValueForm xs ys None = (all_finite xs && all_finite ys) ≡ false
