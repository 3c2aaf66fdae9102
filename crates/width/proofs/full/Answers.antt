-- `width::full` gives the definition's count of one step, by its test. Assumes nothing.
use borrow.Author.Tests.{le-leb, lt-leb}
use Rattle.width.proofs.full.Goals as goal

pub returns-then-z-m : goal.returns-then-z-m
returns-then-z-m c = simp (lt-leb _ _ c.if-z-m.true)

pub returns-else-z-m : goal.returns-else-z-m
returns-else-z-m c = simp (le-leb _ _ c.if-z-m.false)
