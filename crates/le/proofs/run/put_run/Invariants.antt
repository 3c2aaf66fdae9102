-- `le::run::put_run` puts a run of numbers. The invariant: the first i are put, and nothing else has changed. Assumes nothing.
use mathlib.Core.Path.{◌≡◌}
use mathlib.Core.List.{map}
use lib.ListN.{take}
use lib.Seq.{sets}
use Rattle.le.specs.Number.{run_of}
use Rattle.le.proofs.run.put_run.Given as goal

abbrev pub invariant-loop-i : goal.invariant-loop-i
invariant-loop-i g l = l.d ≡ sets l.initial.d l.at (run_of g.T.Put.BYTES (take l.i (map g.T.Put.number l.xs)))
