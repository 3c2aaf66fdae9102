-- `pageblock::rules::counts_hold` tests the slices' lengths one after the other, then the limits: a law for each return. Assumes nothing.
use Rattle.pageblock.proofs.Passing.{types-uneven, counts-uneven, vertices-uneven, all-even}
use Rattle.pageblock.proofs.rules.counts_hold.Goals as goal

pub returns-then-lists : goal.returns-then-lists
returns-then-lists c = types-uneven _ c.if-lists.true

pub returns-then-lists-2 : goal.returns-then-lists-2
returns-then-lists-2 c = counts-uneven _ c.if-lists.false c.if-lists-2.true

pub returns-then-lists-3 : goal.returns-then-lists-3
returns-then-lists-3 c = vertices-uneven _ c.if-lists.false c.if-lists-2.false c.if-lists-3.true

pub returns : goal.returns
returns c = all-even _ c.if-lists.false c.if-lists-2.false _ c.if-lists-3.false c.counts_ok.ensures
