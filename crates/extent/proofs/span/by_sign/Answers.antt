-- `extent::span::by_sign` goes by the sign bit. Assumes nothing.
use Rattle.std.proofs.Common.{le-ltb, lt-ltb}
use Rattle.extent.specs.Span.{by_sign}
use Rattle.extent.proofs.span.by_sign.Goals as goal

pub returns-then-b-lt9223372036854775808 : goal.returns-then-b-lt9223372036854775808
unfolding by_sign
returns-then-b-lt9223372036854775808 c = simp (lt-ltb _ _ c.if-b-lt9223372036854775808.true)

pub returns : goal.returns
unfolding by_sign
returns c = simp (le-ltb _ _ c.if-b-lt9223372036854775808.false)
