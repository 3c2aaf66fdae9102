-- The writer's steps: "open (2), page (18, 3, 6, 11, 12, 13, 14, 15, 2), close (18, 3, 2). The state goes in and is handed back. A state not from
-- an open call is taken as it stands: a position past the buffer is 2." Assumes nothing.
use Rattle.std.specs.Prelude.{ℕ, ◌+◌, ◌≡◌, Bool, true, false, not, cond, ◌&&◌, List, leb, ltb, length}
use Rattle.std.proofs.lemmas.List.Edits.{sets}
use Rattle.answer.specs.Limits.{most_pages, most_shapes}
use Rattle.answer.specs.Lent.{LentMut, came_mut, left}
use Rattle.answer.specs.Table as table
use Rattle.answer.specs.Refusal.{because}
use Rattle.answer.specs.Outcome.{Out, refused, ok, need, on}
use Rattle.answer.specs.Rule.{rule, passed}
use Rattle.le.specs.Number.{bytes_of}
use Rattle.block.specs.Kinds as kinds
use Rattle.frame.specs.Layout.{the_edition}
use Rattle.frame.specs.Whole.{block_of, end_block}
use Rattle.pageblock.specs.Body.{Handed}
use Rattle.pageblock.specs.Page.{page_written}
use Rattle.writer.specs.declared.Writer.{Writer}
use Rattle.writer.specs.declared.Stepped.{Stepped}

-- a state: position, pages, shapes, closed or not
abbrev pub state_with : ℕ → ℕ → ℕ → Bool → Writer
state_with position pages shapes closed = record { position = position; pages = pages; shapes = shapes; closed = closed }

-- what an accepted step adds: the next state, and bytes from a place on
pub record Added : Type 0 where
  pub next : Writer
  pub from : ℕ
  pub bytes : List ℕ

-- 2: bytes from a place on, for a lent buffer of so many bytes
unfoldable pub put_at : ℕ → ℕ → List ℕ → Writer → Out Added
put_at room from bytes next = need (leb (from + length bytes) room) (because table.room) (ok (record { next = next; from = from; bytes = bytes }))

-- 18
unfoldable pub open_rule : Writer → Out (Unit {0})
open_rule st = rule (not st.closed) table.closed

-- ---- open

-- once, first: the edition (u16)
unfoldable pub first_block : List ℕ
first_block = block_of kinds.first (bytes_of 2 the_edition)

-- whatever the state was, the next one has no pages and stands behind the first block
unfoldable pub open_of : ℕ → Out Added
open_of room = put_at room 0 first_block (state_with (length first_block) 0 0 false)

-- ---- page

-- 3: a 1,025th page, or a state with over 262,144 shapes
unfoldable pub pages_rule : Writer → Out (Unit {0})
pages_rule st = rule (ltb st.pages most_pages && leb st.shapes most_shapes) table.many

-- the page's block at the position, and one page and its shapes more
unfoldable pub page_step_of : Writer → ℕ → Handed → Out Added
page_step_of st room i =
    on (open_rule st) (λ _.
    on (pages_rule st) (λ _.
    on (page_written the_edition i) (λ bytes.
    put_at room st.position bytes (state_with (st.position + length bytes) (st.pages + 1) (st.shapes + length i.registers) false))))

-- ---- close

-- 3: a state with over 1,024 pages or 262,144 shapes
unfoldable pub totals_rule : Writer → Out (Unit {0})
totals_rule st = rule (leb st.pages most_pages && leb st.shapes most_shapes) table.many

-- the end block at the position, with the state's counts
unfoldable pub close_of : Writer → ℕ → Out Added
close_of st room =
    on (open_rule st) (λ _.
    on (totals_rule st) (λ _.
    let bytes = end_block st.pages st.shapes in
    put_at room st.position bytes (state_with (st.position + length bytes) st.pages st.shapes true)))

-- ---- what a step leaves

-- the state handed back: the next one; after a refusal the one that came in
unfoldable pub state_after : Out Added → Writer → Writer
state_after (refused w) st = st
state_after (ok a) st = a.next

-- the buffer: the bytes from their place on, and the rest as it was; after a refusal all as it was
unfoldable pub buffer_after : Out Added → List ℕ → List ℕ
buffer_after (refused w) d = d
buffer_after (ok a) d = sets d a.from a.bytes

-- the contract of a step: what it says, the state it hands back and the buffer as it leaves it are those of the outcome o
pub record Steps (o : Out Added) (st : Writer) (d : List ℕ) (r : Stepped) (left : List ℕ) : Type 0 where
  pub verdict : r.verdict ≡ passed o
  pub state : r.writer ≡ state_after o st
  pub buffer : left ≡ buffer_after o d

-- the same, of a buffer that is lent
abbrev pub StepsIn : Out Added → Writer → LentMut → Stepped → Type 0
StepsIn o st d r = Steps o st (came_mut d) r (left d)

-- ---- for an inner step; no service speaks of it

-- where the part of a buffer that a page may fill starts: at the position, or at the end where that lies past it
unfoldable pub start_of : ℕ → ℕ → ℕ
start_of position room = cond (leb position room) position room
