-- `sound::print::print` prints the line for the input. Nothing is assumed.
use Rattle.text.proofs.Stretches.{written_last, written-whole, front}
use Rattle.sound.proofs.Sounds.{line-left}
use Rattle.sound.proofs.print.print.Goals as goal

pub write-requires : goal.write-requires
write-requires g c =
    let put = c.put_line-n.ensures in
    written_last _ _ _ (line-left c.args.input.now) _ (front put.puts put.prefix_len.0)

pub returns : goal.returns
returns g c =
    let put = c.put_line-n.ensures in
    written-whole _ _ _ (line-left c.args.input.now) _ (front put.puts put.prefix_len.0) _ c.write.ensures
