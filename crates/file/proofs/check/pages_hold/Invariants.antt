-- `file::check::pages_hold` opens page after page: what is left decides as the whole does. Assumes nothing.
use Prim.Native.Nat.{◌-◌}
use Rattle.file.proofs.Rests.{Going}
use Rattle.file.proofs.check.pages_hold.Given as goal

abbrev pub invariant-loop-c : goal.invariant-loop-c
invariant-loop-c l = Going l.s l.initial.c l.c

abbrev pub decreases-loop-c : goal.decreases-loop-c
decreases-loop-c l = 1025 - l.c.pages
