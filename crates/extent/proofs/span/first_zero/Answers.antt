-- `extent::span::first_zero` gives the first zero of a list. The invariant: none has been passed. Assumes nothing.
use Rattle.std.proofs.Common.{drop, sym, ◌∙◌, drop_of_length-le}
use Rattle.answer.proofs.Alls.{stands}
use Rattle.extent.proofs.Zeros.{first-here, first-later, first-none}
use Rattle.extent.proofs.span.first_zero.Goals as goal

pub returns-then-is_zero : goal.returns-then-is_zero
returns-then-is_zero c =
    let vs = c.args.vs.now in
    let i = c.loop-v.v-index in
    first-here (drop i vs) _ _ (stands vs i 0 c.loop-v-test.true) (sym c.is_zero.ensures ∙ c.if-is_zero.true) ∙ c.loop-v.invariant

pub loop-v-preserved : goal.loop-v-preserved
loop-v-preserved c =
    let vs = c.args.vs.now in
    let i = c.loop-v.v-index in
    first-later (drop i vs) _ _ (stands vs i 0 c.loop-v-test.true) (sym c.is_zero.ensures ∙ c.if-is_zero.false) ∙ c.loop-v.invariant

pub returns : goal.returns
returns c =
    let vs = c.args.vs.now in
    let i = c.loop-v.v-index in
    first-none (drop i vs) (drop_of_length-le vs {i = i} c.loop-v-test.false) ∙ c.loop-v.invariant
