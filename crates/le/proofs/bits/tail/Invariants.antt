-- `tail` gives the bits from byte i on. The invariant: `acc` is the number of the bytes from `e` on. Assumes nothing.
use mathlib.Core.Path.{◌≡◌}
use Prim.Native.Nat.{◌≤◌}
use lib.ListN.{drop}
use Rattle.le.specs.Number.{number}
use Rattle.le.proofs.bits.tail.Given as goal

abbrev pub invariant-loop-e : goal.invariant-loop-e
invariant-loop-e l = (l.i ≤ l.e) × (l.acc ≡ number (drop l.e l.s))
