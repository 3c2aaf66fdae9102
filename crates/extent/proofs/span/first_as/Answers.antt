-- `extent::span::first_as` looks for the first zero where b is zero. Assumes nothing.
use Rattle.std.proofs.Common.{sym, ◌∙◌}
use Rattle.extent.specs.Span.{first_as}
use Rattle.extent.proofs.span.first_as.Goals as goal

pub returns-then-is_zero : goal.returns-then-is_zero
unfolding first_as
returns-then-is_zero c = let e = sym c.is_zero.ensures ∙ c.if-is_zero.true in simp e c.first_zero.ensures

pub returns : goal.returns
unfolding first_as
returns c = let e = sym c.is_zero.ensures ∙ c.if-is_zero.false in simp e
