-- `extent::boxes::box_of` makes the box of the two spans, which is that of the vertices in value. Assumes nothing.
use Rattle.std.proofs.Common.{sym, ◌∙◌, subst}
use Rattle.extent.specs.Boxes.{FiniteBox}
use Rattle.extent.proofs.Spanned.{spans-finite, boxes-made}
use Rattle.extent.proofs.boxes.box_of.Goals as goal

pub box_with-requires : goal.box_with-requires
box_with-requires c =
    subst FiniteBox (sym c.bounds_from.ensures)
    (spans-finite c.args.xs.now c.args.ys.now _ _ c.requires.0 c.requires.1 c.span_of.ensures c.span_of-2.ensures c.requires.2 c.requires.3)

pub returns : goal.returns
returns c =
    let p = c.span_of.ensures in
    let q = c.span_of-2.ensures in
    let f = spans-finite c.args.xs.now c.args.ys.now _ _ c.requires.0 c.requires.1 p q c.requires.2 c.requires.3 in
    boxes-made c.args.xs.now c.args.ys.now _ _ c.requires.0 c.requires.1 p q _ f (c.box_with.ensures.1 ∙ c.bounds_from.ensures)
