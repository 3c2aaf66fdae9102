-- Which bytes are a query block, and what they ask, with no order of refusals. Assumes nothing.
use Rattle.std.specs.Prelude.{ℕ, ◌+◌, ◌≡◌, true, List, T, length}
use Rattle.std.specs.Float.{binary64}
use Rattle.std.specs.Float.Ieee.{fits}
use Rattle.answer.specs.Outcome.{ok}
use Rattle.block.specs.declared.Block.{Block}
use Rattle.block.specs.Block.{head_bytes, block_at}
use Rattle.block.specs.Kinds as kinds
use Rattle.extent.specs.Forms.{FitsBox}
use Rattle.query.specs.declared.ask.Ask.{Ask}
use Rattle.query.specs.declared.ask.Query.{Query}
use Rattle.query.specs.declared.ask.Query.TheVariants.{Everything, Spot, Window}
use Rattle.query.specs.Block.{body_len, asked}

-- a query block of n bytes at the front: the block that stands there
pub record Fronts (s : List ℕ) (n : ℕ) : Type 0 where
  pub block : Block
  pub found : block_at s 0 ≡ ok block
  pub kind : block.kind ≡ kinds.query
  pub body : body_len block.len ≡ true
  pub takes : head_bytes + block.len ≡ n

-- the bytes s are exactly a query block, and ask a
pub record Accepts (s : List ℕ) (a : Ask) : Type 0 where
  pub exactly : Fronts s (length s)
  pub says : asked s ≡ ok a

-- a query of 64-bit floats, as those of each query that a program holds are
abbrev pub FitsQuery : Query → Type 0
FitsQuery Everything = Unit {0}
FitsQuery (Spot x y) = T (fits binary64 x) × T (fits binary64 y)
FitsQuery (Window b) = FitsBox b
