-- `extent::span::span_of` carries three choices through a list in one walk, and makes its least and its greatest of them. The invariant: what the three are
-- so far, and the values to come, make them. Assumes nothing.
use Rattle.std.proofs.Common.{◌+◌}
use Rattle.extent.specs.Span.{lower, higher, higher_flipped}
use Rattle.extent.proofs.Carrying.{Carries}
use Rattle.extent.proofs.span.span_of.Given as goal

abbrev pub invariant-loop-v : goal.invariant-loop-v
invariant-loop-v l = Carries lower l.vs (l.v-index + 1) l.low × Carries higher l.vs (l.v-index + 1) l.high × Carries higher_flipped l.vs (l.v-index + 1) l.up
