-- A file block by block: the first block, and what stands at a cursor after it. "Six bytes and the body present (4), kind (5), then for the
-- first block length 2 (4), edition (5); for a page 3, at least 38 bytes (4), counts (6), exact length (4), box form (7); for the end block
-- length 8 (4), counts (6), nothing after (4)." Assumes nothing.
use Rattle.std.specs.Prelude.{ℕ, ◌+◌, Bool, ◌&&◌, cond, List, length, take, drop, ltb, eqb}
use Rattle.answer.specs.Limits.{most_pages}
use Rattle.answer.specs.Table.{many, lengths, kind, counts}
use Rattle.answer.specs.Refusal.{because}
use Rattle.answer.specs.Outcome.{Out, refused, ok, need, on, in_page}
use Rattle.le.specs.Number.{number_at}
use Rattle.block.specs.Kinds as kinds
use Rattle.block.specs.Block.{head_bytes, kind_at, block_at}
use Rattle.block.specs.declared.Block.{Block}
use Rattle.frame.specs.declared.head.Head.{Head}
use Rattle.frame.specs.declared.cursor.Cursor.{Cursor}
use Rattle.frame.specs.declared.cursor.PageAt.{PageAt}
use Rattle.frame.specs.declared.cursor.Glance.{Glance}
use Rattle.frame.specs.Layout.{the_edition}
use Rattle.frame.specs.Head.{head_of}

-- the len bytes from a place on
abbrev pub part : List ℕ → ℕ → ℕ → List ℕ
part s at len = take len (drop at s)

-- ---- the first block

-- its bytes: a head, and the edition
abbrev pub first_block_bytes : ℕ
first_block_bytes = head_bytes + 2

-- the cursor after it
abbrev pub first_cursor : ℕ → Cursor
first_cursor edition = record { edition = edition; at = first_block_bytes; pages = 0; shapes = 0 }

-- a block that was found, as the first: its kind, length 2, the edition
unfoldable pub as_first : List ℕ → Block → Out Cursor
as_first s b =
    need (eqb b.kind kinds.first) (because kind)
    (need (eqb b.len 2) (because lengths)
    (let edition = number_at 2 s b.body in
    need (eqb edition the_edition) (because kind)
    (ok (record { edition = edition; at = b.body + 2; pages = 0; shapes = 0 }))))

-- the cursor after the first block
unfoldable pub first_of : List ℕ → Out Cursor
first_of s = on (block_at s 0) (as_first s)

-- ---- a block after it

-- a page, or the end
pub data NextBlock : Type 0 where
  page : PageAt → NextBlock
  end : NextBlock

-- the cursor after a page
abbrev pub past : Cursor → Block → Head → Cursor
past c b h = record { edition = c.edition; at = b.body + b.len; pages = c.pages + 1; shapes = c.shapes + h.g }

-- a page: no 1,025th, and then its head
unfoldable pub as_page : List ℕ → Cursor → Block → Out NextBlock
as_page s c b =
    need (ltb c.pages most_pages) (because many)
    (on (head_of c.edition (part s b.body b.len)) (λ h.
    ok (page (record { head = h; body = b.body; len = b.len; next = past c b h }))))

-- the end: length 8, both counts, nothing after
unfoldable pub as_end : List ℕ → Cursor → Block → Out NextBlock
as_end s c b =
    need (eqb b.len 8) (because lengths)
    (need (eqb (number_at 4 s b.body) c.pages && eqb (number_at 4 s (b.body + 4)) c.shapes) (because counts)
    (need (eqb (b.body + 8) (length s)) (because lengths)
    (ok end)))

-- by its kind
unfoldable pub by_kind : List ℕ → Cursor → Block → Out NextBlock
by_kind s c b = cond (eqb b.kind kinds.page) (as_page s c b) (cond (eqb b.kind kinds.end) (as_end s c b) (refused (because kind)))

-- what stands at a cursor. A refusal's page is the number of page blocks passed before it, and is set here
unfoldable pub next_of : List ℕ → Cursor → Out NextBlock
next_of s c = in_page c.pages (on (block_at s c.at) (by_kind s c))

-- ---- what a walk reads of a block that has passed

-- the end block stands at a cursor
unfoldable pub ends_at : List ℕ → Cursor → Bool
ends_at s c = eqb (kind_at s c.at) kinds.end

-- what it has to know of a page that it may pass by
abbrev pub glance_of : PageAt → Glance
glance_of p = record { v = p.head.v; stored = p.head.stored; next = p.next }
