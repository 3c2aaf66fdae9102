-- `box_at` takes the four patterns where they stand, each finite, and makes their box. Assumes nothing.
use mathlib.Core.Path.{sym, ap, subst, ◌∙◌}
use Rattle.extent.specs.Boxes.{FiniteBox}
use Rattle.extent.specs.Forms.{floats_of}
use Rattle.frame.proofs.head.box_at.Goals as goal

pub box_with-requires : goal.box_with-requires
box_with-requires c = subst FiniteBox (sym c.bounds_at.ensures) c.requires.1

pub returns : goal.returns
returns c = c.box_with.ensures.0 ∙ ap floats_of c.bounds_at.ensures
