-- `width::choose` takes the width of least size. The invariant: the best so far is the choice among the widths below n. Assumes nothing.
use Prim.Native.Nat.{◌-◌}
use Rattle.width.specs.Width.{zs_of, column_size}
use Rattle.width.proofs.Least.{Chosen}
use Rattle.width.proofs.choose.Given as goal

abbrev pub invariant-loop-n : goal.invariant-loop-n
invariant-loop-n l = Chosen (column_size 64 (zs_of 64 l.vs)) (l.n - 1) l.best
