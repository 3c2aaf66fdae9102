-- `width::lesser` gives the definition's choice, by its test. Assumes nothing.
use borrow.Author.Tests.{lt-ltb, le-ltb}
use Rattle.width.proofs.lesser.Goals as goal

pub returns-then-size-c : goal.returns-then-size-c
returns-then-size-c c = simp (lt-ltb _ _ c.if-size-c.true)

pub returns-else-size-c : goal.returns-else-size-c
returns-else-size-c c = simp (le-ltb _ _ c.if-size-c.false)
