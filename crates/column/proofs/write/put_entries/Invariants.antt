-- `column::write::put_entries` puts the entries of all values after the first. The invariant: what is still to be put makes the same whole.
-- Assumes nothing.
use Prim.Native.Nat.{◌+◌}
use Rattle.column.proofs.Writing.{Putting}
use Rattle.column.proofs.write.put_entries.Given as goal

abbrev pub invariant-loop-v : goal.invariant-loop-v
invariant-loop-v l = Putting 64 l.n l.vs l.initial.part l.part l.at l.a (l.v-index + 1)
