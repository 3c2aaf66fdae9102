-- `extent::span::first_zero` gives the first zero of a list. The invariant: none has been passed. Assumes nothing.
use Rattle.std.proofs.Common.{◌≡◌, drop}
use Rattle.extent.specs.Span.{first_zero}
use Rattle.extent.proofs.span.first_zero.Given as goal

abbrev pub invariant-loop-v : goal.invariant-loop-v
invariant-loop-v l = first_zero (drop l.v-index l.vs) ≡ first_zero l.vs
