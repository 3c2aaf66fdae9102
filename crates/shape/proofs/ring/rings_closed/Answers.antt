-- `shape::ring::rings_closed` tests the parts where those of the type are rings. Assumes nothing.
use mathlib.Core.Path.{sym, ap, ◌∙◌}
use mathlib.Core.Bool.{not}
use borrow.Author.Tests.{not-true, not-false}
use Rattle.std.proofs.Common.{rules}
use Rattle.types.specs.declared.rows.TypeRow.{TypeRow}
use Rattle.shape.specs.Rules.{closed_ring, rings_closed}
use Rattle.shape.proofs.OnlyIf.{skipped, decides}
use Rattle.shape.proofs.ring.rings_closed.Goals as goal

pub returns-then-not-row_of : goal.returns-then-not-row_of
unfolding rings_closed
returns-then-not-row_of c =
    let e = ap (λ (r : TypeRow). r.rings) c.row_of.ensures in
    ap not e ∙ skipped _ _ (sym e ∙ not-true _ c.if-not-row_of.true)

pub returns-else-not-row_of : goal.returns-else-not-row_of
unfolding rings_closed
returns-else-not-row_of c =
    decides _ _ _ (sym (ap (λ (r : TypeRow). r.rings) c.row_of.ensures) ∙ not-false _ c.if-not-row_of.false)
    (c.all_parts.ensures closed_ring (record { says = λ x y r e. search rules }))
