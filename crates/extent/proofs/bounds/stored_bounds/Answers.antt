-- `extent::bounds::stored_bounds` takes the first met of those equal in value to the two spans' least and greatest: they are the box of the
-- definition. Assumes nothing.
use Rattle.std.proofs.Common.{arith, rules}
use Rattle.extent.proofs.Spanned.{no-bounds, first_made}
use Rattle.extent.proofs.bounds.stored_bounds.Goals as goal

pub returns-then-xs-eq0 : goal.returns-then-xs-eq0
returns-then-xs-eq0 c = no-bounds c.args.xs.now c.args.ys.now c.if-xs-eq0.true

pub returns : goal.returns
returns c =
    let l = c in
    let s = l in
    first_made s.args.xs.now s.args.ys.now _ _ (omega arith) s.requires c.span_of-x.ensures
    c.span_of-y.ensures
    (λ i. (l.shared_slice_known-1.given i).fits)
    (λ i. (l.shared_slice_known-2-1.given i).fits) _ _ _ _ (search rules) (search rules) (search rules) (search rules)
    c.first_as.ensures c.first_as-2.ensures c.first_as-3.ensures c.first_as-4.ensures
