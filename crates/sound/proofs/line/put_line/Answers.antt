-- `sound::line::put_line` puts the line for what was judged. Nothing is assumed.
use Rattle.sound.proofs.Sounds.{line-sound, line_refused}
use Rattle.sound.proofs.line.put_line.Goals as goal

pub returns-in-Ok-clause-puts : goal.returns-in-Ok-clause-puts
returns-in-Ok-clause-puts c =
    let a = c.args in
    line-sound a.input.now a.out.now _ _ _ c.judged.ensures _ c.in-Ok.is c.put_sound.ensures.puts

pub returns-in-Err-clause-puts : goal.returns-in-Err-clause-puts
returns-in-Err-clause-puts c =
    let a = c.args in
    line_refused a.input.now a.out.now _ _ _ c.judged.ensures _ c.in-Err.is c.put_refused.ensures.puts
