-- `extent::span::is_zero` tests the low 63 bits, as the definition does. Assumes nothing.
use Rattle.std.proofs.Common.{rules}
use Rattle.extent.specs.Span.{is_zero}
use Rattle.extent.proofs.span.is_zero.Goals as goal

pub returns : goal.returns
unfolding is_zero
returns c = search rules
