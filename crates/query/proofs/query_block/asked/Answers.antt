-- `query::query_block::asked` goes by the length, as the definition does. Assumes nothing.
use mathlib.Core.Path.{sym, ap₂, ◌∙◌}
use Rattle.query.specs.Block.{spot_asked}
use Rattle.query.proofs.Blocks.{asked-everything, asked-spot, asked-window, asked-other}
use Rattle.query.proofs.query_block.asked.Goals as goal

pub returns-then-n-eq-HEAD : goal.returns-then-n-eq-HEAD
returns-then-n-eq-HEAD c = sym (asked-everything _ c.if-n-eq-HEAD.true)

pub returns-then-n : goal.returns-then-n
returns-then-n c = c.spot_asked.ensures ∙ ap₂ spot_asked c.u64_at.ensures c.u64_at-then-n.ensures ∙ sym (asked-spot _ c.if-n.true)

pub returns-then-n-2 : goal.returns-then-n-2
returns-then-n-2 c = c.window_asked.ensures ∙ sym (asked-window _ c.if-n-2.true)

pub returns : goal.returns
returns c = c.nothing_asked.ensures ∙ sym (asked-other _ c.if-n-eq-HEAD.false c.if-n.false c.if-n-2.false)
