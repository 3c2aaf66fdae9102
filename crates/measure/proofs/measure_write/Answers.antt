-- `measure_write` gives the count of what `column::write::write` answers, and leaves its room. Assumes nothing.
use Rattle.std.proofs.Common.{ap, ◌∙◌}
use Rattle.measure.specs.Answers.{filled_count}
use Rattle.measure.proofs.measure_write.Goals as goal

pub returns : goal.returns
returns c =
    let q = c.write.ensures in
    record { word = c.count_of.ensures ∙ ap filled_count q.answer; room = q.room }
