-- `width::full_steps` counts the steps at or over the marker. The invariant: the count so far and the full steps that are left, after the
-- value passed last, make all of them. Assumes nothing.
use mathlib.Core.Path.{sym, ap, ◌∙◌}
use native.Mathlib.Omega.{arith}
use native.Mathlib.Nat.{zero-add}
use Rattle.std.proofs.Common.{◌≡◌, drop, get_or, ◌+◌}
use Rattle.answer.proofs.Rests.{rest_at, rest_end}
use Rattle.entry.specs.Step.{z_of}
use Rattle.width.specs.Width.{zs_of, zs_after, fulls}
use Rattle.width.proofs.Sizes.{fulls-none, zs-split, count-more, count-end, count-le}
use Rattle.width.proofs.full_steps.Goals as goal
use Rattle.width.proofs.full_steps.Goals.{After-full-count}

pub returns-then-vs-eq0 : goal.returns-then-vs-eq0
returns-then-vs-eq0 c = fulls-none 64 _ _ c.if-vs-eq0.true

-- with the step that an iteration counts
more : (c : After-full-count) → c.loop-v.count + c.full-count.result + fulls c.args.n (zs_after 64 (get_or c.args.vs.now (c.loop-v.v-index + 1) 0) (drop (c.loop-v.v-index + 1 + 1) c.args.vs.now)) ≡ fulls c.args.n (zs_of 64 c.args.vs.now)
more c =
    let r = rest_at c.args.vs.now c.loop-v.v-index c.loop-v-test.true in
    count-more 64 c.args.n c.loop-v.a (c.loop-v.v-index + 1) c.loop-v.count _ c.args.m c.zigzag.result c.full-count.result c.args.vs.now
    r.0 c.loop-v.invariant c.requires.0 (c.zigzag.ensures ∙ ap (z_of 64 c.loop-v.a) r.1) c.full-count.ensures

pub loop-v-init : goal.loop-v-init
loop-v-init c = zero-add _ ∙ ap (fulls c.args.n) (sym (zs-split 64 c.args.vs.now (omega arith)))

pub overflow_add-count : goal.overflow_add-count
overflow_add-count c = omega (arith, count-le 64 c.args.n c.args.vs.now, more (goal.at.overflow_add-count c).After-full-count)

pub loop-v-preserved : goal.loop-v-preserved
loop-v-preserved c =
    let r = rest_at c.args.vs.now c.loop-v.v-index c.loop-v-test.true in
    rw r.1 (more (goal.at.loop-v-preserved c).After-full-count)

pub returns : goal.returns
returns c =
    count-end 64 c.args.n c.loop-v.a (c.loop-v.v-index + 1) c.loop-v.count _ c.args.vs.now (rest_end c.args.vs.now c.loop-v.v-index c.loop-v-test.false) c.loop-v.invariant
