-- `extent::boxes::box_if_finite` makes the box of the two spans where its four patterns are finite, and then all are. Assumes nothing.
use Rattle.std.proofs.Common.{sym, ap, ◌∙◌, subst, arith}
use Rattle.extent.specs.Boxes.{FiniteBox, four_finite}
use Rattle.extent.proofs.Finite.{finite-box, zeros-finite}
use Rattle.extent.proofs.Spanned.{finite-spans, not-finite-spans, boxes-made, boxes-none}
use Rattle.extent.proofs.boxes.box_if_finite.Goals as goal

pub box_with-requires : goal.box_with-requires
box_with-requires c = zeros-finite

pub returns-then-xs-eq0 : goal.returns-then-xs-eq0
returns-then-xs-eq0 c = boxes-none c.args.xs.now c.args.ys.now _ (omega arith) c.requires c.box_with.ensures.1

pub box_with-requires-then-four_finite : goal.box_with-requires-then-four_finite
box_with-requires-then-four_finite c = (let made-finite_is : FiniteBox c.bounds_from-p.result = finite-box _ (sym c.four_finite.ensures ∙ c.if-four_finite.true) in made-finite_is)

pub returns-then-four_finite : goal.returns-then-four_finite
returns-then-four_finite c =
    let b = c in
    let p = b.span_of.ensures in
    let q = b.span_of-2.ensures in
    let f = subst FiniteBox b.bounds_from-p.ensures ((let made-finite_is : FiniteBox c.bounds_from-p.result = finite-box _ (sym c.four_finite.ensures ∙ c.if-four_finite.true) in made-finite_is)) in (
      finite-spans c.args.xs.now c.args.ys.now _ _ (omega arith) c.requires p q f,
      boxes-made c.args.xs.now c.args.ys.now _ _ (omega arith) c.requires p q _ f (c.box_with-then-four_finite.ensures.1 ∙ b.bounds_from-p.ensures),
    )

pub returns : goal.returns
returns c =
    let b = c in
    not-finite-spans c.args.xs.now c.args.ys.now _ _ (omega arith) c.requires b.span_of.ensures b.span_of-2.ensures
    (ap four_finite (sym b.bounds_from-p.ensures) ∙ sym c.four_finite.ensures ∙ c.if-four_finite.false)
