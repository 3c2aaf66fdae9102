-- Calls one after the other, each with the state and the buffer as the one before left them, and the file that they make. Assumes nothing.
use Rattle.std.specs.Prelude.{ℕ, Bool, true, false, List, [], ◌∷◌, ◌++◌, length, take}
use Rattle.answer.specs.Outcome.{Out, refused, ok}
use Rattle.frame.specs.Layout.{the_edition}
use Rattle.frame.specs.Frame.{Page, Frame}
use Rattle.frame.specs.Whole.{page_blocks, file_of}
use Rattle.pageblock.specs.Body.{Handed}
use Rattle.pageblock.specs.Typed.{Typed}
use Rattle.pageblock.specs.Written.{page_for}
use Rattle.writer.specs.declared.Writer.{Writer}
use Rattle.writer.specs.State.{Added, first_block, open_of, page_step_of, close_of, state_after, buffer_after}

-- ---- calls

-- after open: a page, or the end
pub data Call : Type 0 where
  a_page : Handed → Call
  the_end : Call

-- a state, and the buffer that is lent with it
pub record HalfWritten : Type 0 where
  pub state : Writer
  pub buffer : List ℕ

-- what a call comes to
unfoldable pub call_of : HalfWritten → Call → Out Added
call_of h (a_page i) = page_step_of h.state (length h.buffer) i
call_of h the_end = close_of h.state (length h.buffer)

-- what it leaves
unfoldable pub left_by : Out Added → HalfWritten → HalfWritten
left_by o h = record { state = state_after o h.state; buffer = buffer_after o h.buffer }

-- what an open call leaves
abbrev pub after_open : HalfWritten → HalfWritten
after_open h = left_by (open_of (length h.buffer)) h

-- one call after the other, whether taken or refused
unfoldable pub after_calls : HalfWritten → List Call → HalfWritten
after_calls h [] = h
after_calls h (c ∷ cs) = after_calls (left_by (call_of h c) h) cs

-- the page that a call adds: the one handed in, where it is taken
unfoldable pub page_of_call : Out Added → Call → List Handed
page_of_call (refused w) c = []
page_of_call (ok a) (a_page i) = i ∷ []
page_of_call (ok a) the_end = []

-- the pages that were taken, in order
unfoldable pub taken_of : HalfWritten → List Call → List Handed
taken_of h [] = []
taken_of h (c ∷ cs) = page_of_call (call_of h c) c ++ taken_of (left_by (call_of h c) h) cs

-- the lists of a call are those of a program's slices
unfoldable pub TypedCall : Call → Type 0
TypedCall (a_page i) = Typed i
TypedCall the_end = Unit {0}

-- and so are those of each of the calls
pub data TypedCalls : List Call → Type 0 where
  none : TypedCalls []
  more : {c : Call} {cs : List Call} → TypedCall c → TypedCalls cs → TypedCalls (c ∷ cs)

-- ---- the file

-- what stands in the buffer before the position: once closed, the closed file
abbrev pub file_in : HalfWritten → List ℕ
file_in h = take h.state.position h.buffer

-- the pages of a file that were handed in
unfoldable pub pages_for : List Handed → List Page
pages_for [] = []
pages_for (i ∷ is) = page_for the_edition i ∷ pages_for is

-- the frame of the file of these pages
unfoldable pub frame_for : List Handed → Frame
frame_for is = record { edition = 1; pages = pages_for is }

-- what it is to be: the first block and the pages, and once closed the whole file
unfoldable pub file_so_far : Bool → List Handed → List ℕ
file_so_far false is = first_block ++ page_blocks (pages_for is)
file_so_far true is = file_of (frame_for is)
