-- `text::lines::put_sound` puts the pieces of `sound_line`, one behind the other. Nothing is assumed.
use Rattle.text.specs.Pieces.{codes, most}
use Rattle.text.specs.Lines.{sound_line}
use Rattle.text.proofs.Pieces.{◌then◌, ends, within}
use Rattle.text.proofs.lines.put_sound.Goals as goal

pub returns : goal.returns
unfolding codes most sound_line
returns c =
    let text =
    c.put_words-a.ensures.puts
    then c.put_number-b.ensures.puts
    then c.put_words-c.ensures.puts
    then c.put_number-d.ensures.puts
    then c.put_words.ensures.puts in
    record { puts = text; upper_bound = ends text; prefix_len = within text c.requires }
