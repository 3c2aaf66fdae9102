-- `viewer::file_count::boundary_count` is the word of the count-only search's answer. Assumes nothing.
use Rattle.query.proofs.Good.{read-sound}
use Rattle.viewer.proofs.Words.{word-unasked, word-hits, word-uncounted}
use Rattle.viewer.proofs.file_count.boundary_count.Goals as goal

pub count_good-requires : goal.count_good-requires
count_good-requires c = read-sound _ _ _ c.ask_of.ensures c.in-Ok.is

pub returns-in-Err : goal.returns-in-Err
returns-in-Err c = word-unasked _ _ _ c.ask_of.ensures _ _ c.in-Err.is c.refusal_word.ensures

pub returns-in-Ok-count_good : goal.returns-in-Ok-count_good
returns-in-Ok-count_good c =
    let ask-of = c.ask_of in
    word-hits _ _ _ ask-of.ensures _ c.in-Ok.is _ c.count_good.ensures _ c.in-Ok-count_good.is

pub returns-in-Err-count_good : goal.returns-in-Err-count_good
returns-in-Err-count_good c =
    let ask-of = c.ask_of in
    let count' = c.count_good in
    word-uncounted _ _ _ ask-of.ensures _ c.in-Ok.is _ count'.ensures _ _ c.in-Err-count_good.is c.refusal_word-in-Err-count_good.ensures
