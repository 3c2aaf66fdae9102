-- `store_tail` stores the bytes of x from i to the end. The invariant: the bytes up to the index are stored, and `y` holds those that are left.
-- Assumes nothing.
use mathlib.Core.Path.{◌≡◌}
use Prim.Native.Nat.{◌*◌, ◌/◌, ◌^◌}
use lib.Seq.{sets}
use Rattle.le.specs.Number.{bytes_of}
use Rattle.le.proofs.bits.store_tail.Given as goal

abbrev pub invariant-loop-b : goal.invariant-loop-b
invariant-loop-b l = record {
  stored : l.b-items ≡ sets l.initial.b-items 0 (bytes_of l.b-index l.x);
  left : l.y ≡ l.x / 2 ^ (8 * l.b-index);
}
