-- `viewer::file_search::boundary_search` tells the search, or the refusal of its query's block. Assumes nothing.
use Rattle.query.proofs.Good.{read-sound}
use Rattle.viewer.proofs.Telling.{search-unasked, search-asked}
use Rattle.viewer.proofs.file_search.boundary_search.Goals as goal

pub search_good-requires : goal.search_good-requires
search_good-requires c = read-sound _ _ _ c.ask_of.ensures c.in-Ok.is

pub returns-in-Err : goal.returns-in-Err
returns-in-Err c = search-unasked _ _ _ _ c.ask_of.ensures _ _ c.in-Err.is c.refusal_word.ensures

pub returns-in-Ok : goal.returns-in-Ok
returns-in-Ok c =
    let ask-of = c.ask_of in
    search-asked _ _ _ _ ask-of.ensures _ _ _ _ c.in-Ok.is c.search_good.ensures c.filled_word.ensures
