-- "Full check: frame, then each page's contents." Assumes nothing.
use Rattle.std.specs.Prelude.{ℕ, List}
use Rattle.answer.specs.Outcome.{Out, ok, on}
use Rattle.frame.specs.declared.walk.Totals.{Totals}
use Rattle.frame.specs.Frame.{frame_of, totals_of}
use Rattle.file.specs.File.{pages_of}

-- how many pages and shapes, or the refusal with its page
unfoldable pub check_of : List ℕ → Out Totals
check_of s =
    on (frame_of s) (λ f.
    on (pages_of 0 f.pages) (λ _.
    ok (totals_of f)))
