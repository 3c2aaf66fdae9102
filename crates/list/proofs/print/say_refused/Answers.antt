-- `list::print::say_refused` puts the refused line, which is all that is printed. Nothing is assumed.
use Rattle.text.proofs.Stretches.{written_last, written-whole, front}
use Rattle.list.proofs.Lines.{refused-left}
use Rattle.list.proofs.print.say_refused.Goals as goal

pub write-requires : goal.write-requires
write-requires g c =
    let put = c.put_refused-n.ensures in
    written_last _ _ _ (refused-left c.args.input.now c.args.w c.requires.input_value _ c.requires.k_value) _ (front put.puts put.prefix_len.0)

pub returns : goal.returns
returns g c =
    let put = c.put_refused-n.ensures in
    written-whole _ _ _ (refused-left c.args.input.now c.args.w c.requires.input_value _ c.requires.k_value) _ (front put.puts put.prefix_len.0) _ c.write.ensures.moved
