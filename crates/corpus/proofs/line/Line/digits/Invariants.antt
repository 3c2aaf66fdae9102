-- `corpus::line::Line::digits` puts two digits for each byte passed, of at most eight, behind a place with room for sixteen. Assumes nothing.
use Rattle.std.proofs.Common.{◌≤◌, ◌+◌, ◌*◌}
use Rattle.corpus.proofs.line.Line.digits.Given as goal

abbrev pub invariant-loop-b : goal.invariant-loop-b
invariant-loop-b g l = l.used ≤ 4080 + 2 * l.b-index
