-- `column::held::held` counts the values that the bytes hold in full. The invariant: so many are, and the others begin here. Assumes nothing.
use Rattle.column.proofs.Holding.{Counted}
use Rattle.column.proofs.held.held.Given as goal

abbrev pub invariant-loop-i : goal.invariant-loop-i
invariant-loop-i l = Counted 64 l.s l.n l.at l.i
