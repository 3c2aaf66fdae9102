-- `list::print::write` moves the count on by what it hands on, which is short. Nothing is assumed.
use native.Mathlib.Omega.{arith}
use Rattle.list.proofs.Lines.{printed-short}
use Rattle.list.proofs.print.write.Goals as goal

pub overflow_add-k : goal.overflow_add-k
overflow_add-k g c = omega (arith, c.requires.within, printed-short c.args.input.now)
