-- `sound::line::judged` refuses over 40,960 bytes by 3, and checks the others. Nothing is assumed.
use Rattle.sound.proofs.Sounds.{judged-many, judged-check}
use native.Mathlib.Omega.{arith}
use Rattle.sound.proofs.line.judged.Goals as goal

pub returns-then-input-gt-MOST_INPUT : goal.returns-then-input-gt-MOST_INPUT
returns-then-input-gt-MOST_INPUT c = rw c.because.ensures (judged-many c.args.input.now (omega arith))

pub returns : goal.returns
returns c = judged-check c.args.input.now _ (omega arith) c.check.ensures
