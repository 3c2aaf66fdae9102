-- "For states from open, with the buffer lent back unchanged, the closed file passes the full check", and its shapes are those handed in: register,
-- type, part lengths and patterns, in order. The calls after open are any, taken and refused; the closed file is the first `position` bytes.
-- Assumes nothing.
use Prim.Native.Nat.{ℕ, suc, ◌≤◌}
use mathlib.Core.Path.{◌≡◌, refl, ◌∙◌}
use mathlib.Core.Bool.{true}
use mathlib.Core.List.{List}
use lib.ListN.{length}
use Rattle.answer.specs.Outcome.{ok}
use Rattle.frame.specs.Layout.{the_edition}
use Rattle.frame.specs.Frame.{totals_of}
use Rattle.shape.specs.Outline.{registered}
use Rattle.answer.proofs.Orders.{on_value}
use Rattle.pageblock.specs.Body.{Handed}
use Rattle.pageblock.specs.Page.{outlines}
use Rattle.pageblock.specs.Written.{page_for}
use Rattle.pageblock.proofs.Passing.{rules-passed}
use Rattle.pageblock.proofs.ReadBack.{page-contents}
use Rattle.writer.specs.Run.{Call, HalfWritten, TypedCalls, file_in, pages_for, frame_for}
use Rattle.writer.specs.Written.{Sounds, sounds_none, sounds_more}
use Rattle.writer.proofs.Running.{run-frame}
use Rattle.file.specs.File.{pages_of, shapes_in}
use Rattle.file.specs.Check.{check_of}
use Rattle.file.proofs.Rests.{pages-first}
use Rattle.file.proofs.Checks.{shapes_are, accepts-check}
use Rattle.promises.specs.Writing.{ended, taken, handed_shapes}

-- the contents of pages that were taken are the shapes handed in
pub pages-read : (k : ℕ) {is : List Handed} → Sounds is → pages_of k (pages_for is) ≡ ok (handed_shapes is)
unfolding pages_of pages_for handed_shapes
pages-read k sounds_none = refl
pages-read k (sounds_more {i = i} {is = is} t p s) =
    pages-first k (page_for the_edition i) (pages_for is) (registered i.registers (outlines i)) (page-contents the_edition i t (rules-passed i tt p))
    ∙ on_value (pages_of (suc k) (pages_for is)) _ (handed_shapes is) (pages-read (suc k) s)

-- the closed file: checked, and its shapes
module _ (h : HalfWritten) (cs : List Call) (l : 8 ≤ length h.buffer) (t : TypedCalls cs) where
  pub closed-checked : (ended h cs).state.closed ≡ true → check_of (file_in (ended h cs)) ≡ ok (totals_of (frame_for (taken h cs)))
  unfolding frame_for
  closed-checked c =
      let f = run-frame h cs l t c in
      accepts-check (file_in (ended h cs)) (frame_for (taken h cs)) (handed_shapes (taken h cs)) f.0 (pages-read 0 f.1)

  pub closed-shapes : (ended h cs).state.closed ≡ true → shapes_in (file_in (ended h cs)) ≡ ok (handed_shapes (taken h cs))
  unfolding frame_for
  closed-shapes c =
      let f = run-frame h cs l t c in
      shapes_are (file_in (ended h cs)) (frame_for (taken h cs)) f.0 ∙ pages-read 0 f.1
