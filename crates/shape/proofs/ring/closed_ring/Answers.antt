-- `shape::ring::closed_ring` compares the first and the last vertex, x and then y. Assumes nothing.
use mathlib.Core.Path.{◌∙◌}
use borrow.Author.Tests.{eq-eqb, ne_eqb}
use Rattle.shape.proofs.Rings.{ring-none, ring_x, ring-open}
use Rattle.shape.proofs.ring.closed_ring.Goals as goal

pub returns-then-n-eq0 : goal.returns-then-n-eq0
returns-then-n-eq0 c = eq-eqb _ _ c.if-n-eq0.true ∙ ring-none _ _ c.requires c.if-n-eq0.true

pub returns-then-xs-n : goal.returns-then-xs-n
returns-then-xs-n c = ring_x _ c.args.ys.now c.requires c.if-xs-n.true

pub returns-else-xs-n : goal.returns-else-xs-n
returns-else-xs-n c = ne_eqb _ _ c.if-xs-n.false ∙ ring-open _ c.args.ys.now c.requires c.if-xs-n.false
