-- `query::query_block::block_len` reads the block at the front and asks what it takes; any refusal of the block is that of a query. Assumes nothing.
use mathlib.Core.Path.{sym, ◌∙◌}
use Rattle.query.proofs.Blocks.{block-found, block_refused}
use Rattle.query.proofs.query_block.block_len.Goals as goal

pub returns-in-Ok : goal.returns-in-Ok
returns-in-Ok c = c.len_of.ensures ∙ sym (block-found _ _ (sym c.block_at.ensures ∙ c.in-Ok.is))

pub returns-in-Err : goal.returns-in-Err
returns-in-Err c = c.no_block.ensures ∙ sym (block_refused _ _ (sym c.block_at.ensures ∙ c.in-Err.is))
