-- `shape::which::RingsClosedShapeRule::spares` looks at a type's row, if it has one. Assumes nothing.
use mathlib.Core.Path.{ap, ◌∙◌}
use mathlib.Core.Bool.{not}
use borrow.Author.Tests.{lt-ltb}
use Rattle.types.specs.declared.rows.TypeRow.{TypeRow}
use Rattle.shape.specs.Which.{no_rings}
use Rattle.shape.proofs.Whiches.{open-over}
use Rattle.shape.proofs.which.RingsClosedShapeRule.spares.Goals as goal

pub returns-then-t-gt-MULTI_POLYGON : goal.returns-then-t-gt-MULTI_POLYGON
returns-then-t-gt-MULTI_POLYGON c = lt-ltb _ _ c.if-t-gt-MULTI_POLYGON.true ∙ open-over c.args.t c.if-t-gt-MULTI_POLYGON.true

pub returns-else-t-gt-MULTI_POLYGON : goal.returns-else-t-gt-MULTI_POLYGON
unfolding no_rings
returns-else-t-gt-MULTI_POLYGON c = ap (λ (r : TypeRow). not r.rings) c.row_of.ensures
