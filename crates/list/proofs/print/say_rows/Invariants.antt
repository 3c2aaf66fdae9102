-- `list::print::say_rows` hands on stretch after stretch of the rows and then the last line, each what comes next. Nothing is assumed.
use Prim.Native.Nat.{◌*◌, min}
use mathlib.Core.Path.{◌≡◌}
use lib.ListN.{length}
use Rattle.text.proofs.Stretches.{Written}
use Rattle.list.specs.Printed.{printed_of}
use Rattle.list.proofs.Lines.{left_from}
use Rattle.list.proofs.print.say_rows.Given as goal

abbrev pub invariant-loop-stretch : goal.invariant-loop-stretch
invariant-loop-stretch g l = (length l.out ≡ 32256) × Written (printed_of l.input) l.k (left_from l.places l.registers l.types l.shapes (min (l.stretch * 512) (length l.places)))
