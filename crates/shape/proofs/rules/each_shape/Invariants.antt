-- `shape::rules::each_shape` tests each shape: those to come, with the parts and the vertices to come, decide. Assumes nothing.
use mathlib.Core.Path.{◌≡◌}
use lib.ListN.{length, drop}
use Rattle.answer.specs.All.{all_of}
use Rattle.shape.specs.Outline.{outlines_in}
use Rattle.shape.proofs.Walking.{Walking}
use Rattle.shape.proofs.rules.each_shape.Given as goal

abbrev pub invariant-loop-t : goal.invariant-loop-t
invariant-loop-t g l =
    Walking l.lists (length l.yielded) l.k l.at
    × (all_of g.R.ShapeRule.test (drop (length l.yielded) (outlines_in l.lists)) ≡ all_of g.R.ShapeRule.test (outlines_in l.lists))
