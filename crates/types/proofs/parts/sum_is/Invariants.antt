-- `types::parts::sum_is` takes the part lengths from v, one after the other: those to come must make what is left of it. Assumes nothing.
use mathlib.Core.Path.{◌≡◌}
use Prim.Native.Nat.{◌+◌}
use lib.ListN.{drop}
use Rattle.types.specs.Parts.{total}
use Rattle.types.proofs.parts.sum_is.Given as goal

abbrev pub invariant-loop-n : goal.invariant-loop-n
invariant-loop-n l = l.left + total l.lens ≡ total (drop l.n-index l.lens) + l.v
