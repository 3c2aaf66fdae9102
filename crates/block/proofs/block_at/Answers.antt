-- `block_at` reads the block where it is present. Assumes nothing.
use mathlib.Core.Path.{sym, ◌∙◌}
use Rattle.block.proofs.Blocks.{block-absent}
use Rattle.block.proofs.block_at.Goals as goal

pub block_in-requires : goal.block_in-requires
block_in-requires c = sym c.present.ensures ∙ c.if-present.true

pub returns-then-present : goal.returns-then-present
returns-then-present c = sym c.block_in.ensures

pub returns : goal.returns
returns c = c.short.ensures ∙ sym (block-absent _ _ (sym c.present.ensures ∙ c.if-present.false))
