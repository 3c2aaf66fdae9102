-- `page::contents::vertex_rules` gives the answer of rule 12, of 13 to 15, and of 16 by the box that 12 made: a law for each return. Assumes nothing.
use mathlib.Core.Path.{sym, ◌∙◌}
use Rattle.answer.proofs.Outcomes.{handed-on}
use Rattle.extent.specs.Boxes.{patterns}
use Rattle.shape.specs.Outline.{outlines_in}
use Rattle.shape.proofs.Bounding.{finite-holds, finite-fails, own-box, box-rule-is}
use Rattle.page.proofs.Judging.{whole-finite, whole-rings, whole-box}
use Rattle.page.proofs.contents.vertex_rules.Goals as goal

pub returns-in_err-ring_rules : goal.returns-in_err-ring_rules
returns-in_err-ring_rules c =
    handed-on c.from_residual.ensures.1
    ∙ whole-rings _ _ _ _ (finite-holds _ _ _ c.box_if_finite.ensures _ c.in-Some.is) _ (sym c.in_err-ring_rules.was ∙ c.ring_rules.ensures)

pub box_rule-requires : goal.box_rule-requires
box_rule-requires c = (c.requires, (own-box _ _ _ c.box_if_finite.ensures _ c.in-Some.is).good)

pub returns : goal.returns
returns c =
    let p = c.args.lists in
    let form = c.box_if_finite.ensures in
    whole-box (patterns c.args.stored) (outlines_in p) p.xs.now p.ys.now
    (finite-holds _ _ _ form _ c.in-Some.is) c.box_rule.result
    (sym c.in_ok-ring_rules.was ∙ c.ring_rules.ensures)
    (c.box_rule.ensures ∙ box-rule-is (patterns c.args.stored) p.xs.now p.ys.now _ (own-box _ _ _ form _ c.in-Some.is))

pub returns-in_default : goal.returns-in_default
returns-in_default c = whole-finite _ _ _ _ _ (finite-fails _ _ _ c.box_if_finite.ensures _ c.because.ensures c.in_default.is)
