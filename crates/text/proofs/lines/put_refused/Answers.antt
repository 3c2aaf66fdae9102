-- `text::lines::put_refused` puts the pieces of `refused_line`, one behind the other. Nothing is assumed.
use native.Mathlib.Omega.{arith}
use Rattle.text.specs.Pieces.{codes}
use Rattle.text.specs.Lines.{refused_line}
use Rattle.text.proofs.Pieces.{◌then◌, ends, within}
use Rattle.text.proofs.Places.{refused-most}
use Rattle.text.proofs.lines.put_refused.Goals as goal

pub returns : goal.returns
unfolding codes refused_line
returns c =
    let text =
    c.put_words-a.ensures.puts
    then c.put_number-b.ensures.puts
    then c.put_words-c.ensures.puts
    then c.put_number-d.ensures.puts
    then c.put_where-end.ensures.puts
    then c.put_words.ensures.puts in
    let most = refused-most c.args.w in
    record { puts = text; upper_bound = omega (arith, ends text, most); prefix_len = within text (omega (arith, c.requires, most)) }
