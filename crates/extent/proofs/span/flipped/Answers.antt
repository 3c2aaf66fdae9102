-- `extent::span::turned` turns the sign bit over. Assumes nothing.
use Rattle.std.proofs.Common.{le-ltb, lt-ltb}
use Rattle.extent.specs.Span.{flipped}
use Rattle.extent.proofs.span.flipped.Goals as goal

pub returns-then-b-lt9223372036854775808 : goal.returns-then-b-lt9223372036854775808
unfolding flipped
returns-then-b-lt9223372036854775808 c = simp (lt-ltb _ _ c.if-b-lt9223372036854775808.true)

pub returns : goal.returns
unfolding flipped
returns c = simp (le-ltb _ _ c.if-b-lt9223372036854775808.false)
