-- `extent::span::higher_turned` compares the two with their sign bits turned over. Assumes nothing.
use Rattle.std.proofs.Common.{ltb, sym, ◌∙◌, ap₂, le-ltb, lt-ltb}
use Rattle.extent.specs.Span.{higher_flipped}
use Rattle.extent.proofs.span.higher_flipped.Goals as goal

pub returns-then-flipped : goal.returns-then-flipped
unfolding higher_flipped
returns-then-flipped c = let e = sym (ap₂ ltb c.flipped.ensures c.flipped-2.ensures) ∙ lt-ltb _ _ c.if-flipped.true in simp e

pub returns : goal.returns
unfolding higher_flipped
returns c = let e = sym (ap₂ ltb c.flipped.ensures c.flipped-2.ensures) ∙ le-ltb _ _ c.if-flipped.false in simp e
