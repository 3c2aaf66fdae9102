-- `query::ask::page_in` asks whether the page's box meets the window, where the page has a vertex. Assumes nothing.
use mathlib.Core.Path.{sym, ◌∙◌}
use native.Mathlib.Omega.{arith}
use borrow.Author.Tests.{le-ltb}
use Rattle.query.proofs.Touching.{stored_some, stored-none, in_some, in-none}
use Rattle.query.proofs.ask.page_in.Goals as goal

pub returns-then-v-gt0 : goal.returns-then-v-gt0
returns-then-v-gt0 c = c.meets.ensures ∙ sym (in_some _ _ _ (stored_some _ _ (omega arith)))

pub returns-else-v-gt0 : goal.returns-else-v-gt0
returns-else-v-gt0 c = le-ltb 0 c.args.v (omega arith) ∙ sym (in-none _ _ (stored-none _ _ (omega arith)))
