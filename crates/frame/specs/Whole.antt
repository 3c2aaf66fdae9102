-- A whole file, with no walk over it: the first block, a block for each page in order, and the end block. Assumes nothing.
use Rattle.std.specs.Prelude.{ℕ, ◌+◌, ◌^◌, ◌≤◌, ◌<◌, ◌≡◌, List, [], ◌∷◌, ◌++◌, length}
use Rattle.answer.specs.Limits.{most_pages}
use Rattle.answer.specs.Outcome.{ok}
use Rattle.le.specs.Number.{bytes_of}
use Rattle.block.specs.Block as block
use Rattle.block.specs.Kinds as kinds
use Rattle.frame.specs.Layout.{the_edition}
use Rattle.frame.specs.Head.{head_of}
use Rattle.frame.specs.Frame.{Page, Frame, shapes_of}

-- a block: length of the body, kind, body
unfoldable pub block_of : ℕ → List ℕ → List ℕ
block_of kind body = block.block_head (length body) kind ++ body

-- a block for each page
unfoldable pub page_blocks : List Page → List ℕ
page_blocks [] = []
page_blocks (p ∷ ps) = block_of kinds.page p.body ++ page_blocks ps

-- the bytes of the end block: a head, and two counts
abbrev pub end_block_bytes : ℕ
end_block_bytes = block.head_bytes + 8

-- the end: pages, shapes (u32 each)
unfoldable pub end_block : ℕ → ℕ → List ℕ
end_block pages shapes = block_of kinds.end (bytes_of 4 pages ++ bytes_of 4 shapes)

-- the edition; the pages; the end
unfoldable pub file_of : Frame → List ℕ
file_of f = block_of kinds.first (bytes_of 2 f.edition) ++ (page_blocks f.pages ++ end_block (length f.pages) (shapes_of f.pages))

-- a page whose body says its head. The body's length goes in four bytes; that it does is no matter of the head, which has two such lengths in
-- it, but follows where the columns are no longer than theirs may be
pub record Says (edition : ℕ) (p : Page) : Type 0 where
  pub headed : head_of edition p.body ≡ ok p.head
  pub long : length p.body < 2 ^ 32

-- each of them
pub data AllSay (edition : ℕ) : List Page → Type 0 where
  none : AllSay edition []
  more : {p : Page} {ps : List Page} → Says edition p → AllSay edition ps → AllSay edition (p ∷ ps)

-- s is the file of frame f
pub record IsFile (s : List ℕ) (f : Frame) : Type 0 where
  pub edition : f.edition ≡ the_edition
  pub few : length f.pages ≤ most_pages
  pub heads : AllSay the_edition f.pages
  pub same : s ≡ file_of f
