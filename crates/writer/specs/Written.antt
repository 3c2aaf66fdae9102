-- What a writer's state and buffer say, whatever the calls that made them: the pages that were taken, each of which passed, and the file of them so
-- far. Assumes nothing.
use Rattle.std.specs.Prelude.{◌≤◌, ◌≡◌, List, [], ◌∷◌, length}
use Rattle.answer.specs.Limits.{most_pages}
use Rattle.answer.specs.Outcome.{ok}
use Rattle.frame.specs.Frame.{shapes_of}
use Rattle.pageblock.specs.Body.{Handed}
use Rattle.pageblock.specs.Typed.{Typed}
use Rattle.pageblock.specs.Page.{page_rules}
use Rattle.writer.specs.Run.{HalfWritten, pages_for, file_in, file_so_far}

-- pages of a program's slices, each of which the rules let pass
pub data Sounds : List Handed → Type 0 where
  sounds_none : Sounds []
  sounds_more : {i : Handed} {is : List Handed} → Typed i → page_rules i ≡ ok tt → Sounds is → Sounds (i ∷ is)

-- these pages were written: the buffer holds their file before the position, and the state counts them and their shapes
pub record Written (h : HalfWritten) (is : List Handed) : Type 0 where
  pub inside : h.state.position ≤ length h.buffer
  pub bytes : file_in h ≡ file_so_far h.state.closed is
  pub pages : h.state.pages ≡ length is
  pub shapes : h.state.shapes ≡ shapes_of (pages_for is)
  pub few : length is ≤ most_pages
  pub sound : Sounds is
