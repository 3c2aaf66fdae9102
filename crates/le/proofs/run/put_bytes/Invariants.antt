-- `le::run::put_bytes` puts bytes. The invariant: the first i are put, and nothing else has changed. Assumes nothing.
use mathlib.Core.Path.{◌≡◌}
use lib.ListN.{take}
use lib.Seq.{sets}
use Rattle.le.proofs.run.put_bytes.Given as goal

abbrev pub invariant-loop-i : goal.invariant-loop-i
invariant-loop-i l = l.d ≡ sets l.initial.d l.at (take l.i l.xs)
