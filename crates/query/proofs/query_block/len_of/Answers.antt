-- `query::query_block::len_of` tests the kind and then the body's length. Assumes nothing.
use mathlib.Core.Path.{sym, ◌∙◌}
use native.Mathlib.Omega.{arith}
use Rattle.query.proofs.Blocks.{body-most, len_is, len-body, len-kind}
use Rattle.query.proofs.query_block.len_of.Goals.{else-b-eq-QUERY-via-then-b-eq-QUERY+else-body_len, else-b-eq-QUERY-via-else-b-eq-QUERY}
use Rattle.query.proofs.query_block.len_of.Goals as goal

pub overflow_add-result : goal.overflow_add-result
overflow_add-result c = let h = body-most _ (sym c.body_len.ensures ∙ c.if-body_len.true) in omega (arith, h)

pub returns-then-body_len : goal.returns-then-body_len
returns-then-body_len c = sym (len_is _ c.if-b-eq-QUERY.true (sym c.body_len.ensures ∙ c.if-body_len.true))

pub returns : goal.returns
returns c =
    elim c.else-b-eq-QUERY.branch [
      | else-b-eq-QUERY-via-then-b-eq-QUERY+else-body_len w ↦ c.no_block.ensures ∙ sym (len-body _ (sym w.body_len.ensures ∙ w.if-body_len.false))
      | else-b-eq-QUERY-via-else-b-eq-QUERY w ↦ c.no_block.ensures ∙ sym (len-kind _ w.if-b-eq-QUERY.false)
    ]
