-- `walk_from` counts what the walk comes to: the totals so far with those of what is left are those of the whole, and the pages that may
-- follow get fewer. Assumes nothing.
use mathlib.Core.Path.{sym, ap, ◌∙◌}
use Rattle.answer.proofs.Outcomes.{handed-on}
use Rattle.answer.proofs.Rules.{held, failed}
use Rattle.frame.specs.declared.cursor.Glance.{Glance}
use Rattle.frame.proofs.Walks.{walking_start, walking-refused, walking-end, walking-fewer, walking-page}
use Rattle.frame.proofs.Found.{ends-end, ends-page}
use Rattle.frame.proofs.walk.walk_from.Goals as goal

pub loop-l-init : goal.loop-l-init
loop-l-init c = walking_start _ _ c.requires.0 c.requires.1

pub block_rules-requires : goal.block_rules-requires
block_rules-requires c = c.loop-l.invariant.within.pages

pub returns-in_err-block_rules : goal.returns-in_err-block_rules
returns-in_err-block_rules c =
    handed-on c.from_residual.ensures.1 ∙ walking-refused _ _ _ c.loop-l.invariant _ (failed c.block_rules.ensures c.in_err-block_rules.was)

pub at_end-requires : goal.at_end-requires
at_end-requires c = held c.block_rules.ensures c.in_ok-block_rules.was

pub returns-then-at_end : goal.returns-then-at_end
returns-then-at_end c =
    let t = held c.block_rules.ensures c.in_ok-block_rules.was in
    walking-end _ _ _ c.loop-l.invariant (ends-end _ _ t.0 t.1 (sym c.at_end.ensures ∙ c.if-at_end.true))

pub glance-l-requires : goal.glance-l-requires
glance-l-requires c =
    let t = held c.block_rules.ensures c.in_ok-block_rules.was in
    (c.loop-l.invariant.within.shapes, ends-page _ _ t.0 t.1 (sym c.at_end.ensures ∙ c.if-at_end.false))

pub loop-l-smaller : goal.loop-l-smaller
loop-l-smaller c =
    let g = c.glance-l.ensures in
    rw (ap (λ (x : Glance). x.next) g.2) (walking-fewer _ _ _ c.loop-l.invariant g.0 g.1)

pub loop-l-preserved : goal.loop-l-preserved
loop-l-preserved c =
    let g = c.glance-l.ensures in
    rw (ap (λ (x : Glance). x.next) g.2) (walking-page _ _ _ c.loop-l.invariant g.0 g.1)
