-- `text::lines::put_row` puts the pieces of `row`, one behind the other. Nothing is assumed.
use Rattle.text.specs.Pieces.{codes, most}
use Rattle.text.specs.Lines.{row}
use Rattle.text.proofs.Pieces.{◌then◌, ends, within}
use Rattle.text.proofs.lines.put_row.Goals as goal

pub returns : goal.returns
unfolding codes most row
returns c =
    let text =
    c.put_number-a.ensures.puts
    then c.put_words-b.ensures.puts
    then c.put_number-c.ensures.puts
    then c.put_words-d.ensures.puts
    then c.put_number-e.ensures.puts
    then c.put_words.ensures.puts in
    record { puts = text; upper_bound = ends text; prefix_len = within text c.requires }
