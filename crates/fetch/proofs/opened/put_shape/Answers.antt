-- `fetch::opened::put_shape` tests each room before it fills any of them: a law for each return. Assumes nothing.
use Rattle.fetch.proofs.Filling.{put-lens, put-xs, put-ys, put_all}
use Rattle.fetch.proofs.opened.put_shape.Goals as goal

pub returns-then-lens-parts : goal.returns-then-lens-parts
returns-then-lens-parts c =
    let r = c.requires in
    rw c.because.ensures (put-lens c.args.r c.args.p _ _ _ _ _ _ r.lens_reach r.xs_reach r.same c.if-lens-parts.true)

pub returns-then-xs-vertices : goal.returns-then-xs-vertices
returns-then-xs-vertices c =
    let r = c.requires in
    rw c.because-then-xs-vertices.ensures
    (put-xs c.args.r c.args.p _ _ _ _ _ _ r.lens_reach r.xs_reach r.same c.if-lens-parts.false c.if-xs-vertices.true)

pub returns-then-ys-vertices : goal.returns-then-ys-vertices
returns-then-ys-vertices c =
    let r = c.requires in
    rw c.because-then-ys-vertices.ensures
    (put-ys c.args.r c.args.p _ _ _ _ _ _ r.lens_reach r.xs_reach r.same c.if-lens-parts.false c.if-xs-vertices.false c.if-ys-vertices.true)

pub returns : goal.returns
returns c =
    let r = c.requires in
    put_all c.args.r c.args.p _ _ _ _ _ _ r.lens_reach r.xs_reach r.same c.if-lens-parts.false c.if-xs-vertices.false _ _ _
    c.if-ys-vertices.false c.copy_to_start.ensures c.copy_to_start-2.ensures c.copy_to_start-3.ensures
