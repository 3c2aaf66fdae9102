-- `query::query_block::ask_of` finds the block's length, tests that nothing follows, and reads what is asked. Assumes nothing.
use mathlib.Core.Path.{sym, ◌∙◌}
use Rattle.query.proofs.Blocks.{ask-exactly, ask-longer, ask-refused}
use Rattle.query.proofs.query_block.ask_of.Goals as goal

pub returns-then-n-s : goal.returns-then-n-s
returns-then-n-s c = c.asked.ensures ∙ sym (ask-exactly _ _ (sym c.block_len.ensures ∙ c.in-Ok.is) c.if-n-s.true)

pub returns-else-n-s : goal.returns-else-n-s
returns-else-n-s c = c.nothing_asked.ensures ∙ sym (ask-longer _ _ (sym c.block_len.ensures ∙ c.in-Ok.is) c.if-n-s.false)

pub returns-in-Err : goal.returns-in-Err
returns-in-Err c = sym (ask-refused _ _ (sym c.block_len.ensures ∙ c.in-Err.is))
