-- `measure_read` gives the number of what `column::read::read` answers, and leaves its room. Assumes nothing.
use Rattle.std.proofs.Common.{ap, ◌∙◌}
use Rattle.measure.specs.Answers.{number_of}
use Rattle.measure.proofs.measure_read.Goals as goal

pub returns : goal.returns
returns c =
    let q = c.read.ensures in
    record { word = c.number_of.ensures ∙ ap number_of q.answer; room = q.room }
