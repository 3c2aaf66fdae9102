-- `query::ask::shape_in` makes the vertices' box in value, where there is a vertex, and asks whether it meets the window. Assumes nothing.
use mathlib.Core.Path.{sym, ◌∙◌}
use native.Mathlib.Omega.{arith}
use borrow.Author.Tests.{le-ltb}
use lib.ListN.{length}
use Rattle.extent.specs.Boxes.{patterns}
use Rattle.extent.proofs.Sames.{same_met}
use Rattle.query.proofs.Touching.{reach-some, reach-none, in_some, in-none}
use Rattle.query.proofs.ask.shape_in.Goals as goal

pub meets-requires : goal.meets-requires
meets-requires c = (c.requires.0, c.box_of.ensures.good)

pub returns-then-xs-gt0 : goal.returns-then-xs-gt0
returns-then-xs-gt0 c =
    c.meets.ensures ∙ same_met (patterns c.args.w) _ _ c.box_of.ensures.in_value ∙ sym (in_some _ _ _ (reach-some c.args.xs.now c.args.ys.now (omega arith)))

pub returns-else-xs-gt0 : goal.returns-else-xs-gt0
returns-else-xs-gt0 c = le-ltb 0 (length c.args.xs.now) (omega arith) ∙ sym (in-none _ _ (reach-none c.args.xs.now c.args.ys.now (omega arith)))
