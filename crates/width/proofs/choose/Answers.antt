-- `width::choose` takes the width of least size. The invariant: the best so far is the choice among the widths below n. Assumes nothing.
use Rattle.std.proofs.Common.{◌≡◌, ℕ, ◌+◌, ◌-◌, ap, ◌∙◌, subst}
use Rattle.width.specs.Choice.{lesser_choice}
use native.Mathlib.Omega.{arith}
use Rattle.width.specs.Width.{zs_of, column_size, least, width_of}
use Rattle.width.proofs.Least.{Chosen, chosen-zero, chosen_more}
use Rattle.width.proofs.choose.Goals as goal

pub loop-n-init : goal.loop-n-init
loop-n-init c = chosen-zero _ _ c.size_at.ensures

pub loop-n-preserved : goal.loop-n-preserved
loop-n-preserved c =
    let f = column_size 64 (zs_of 64 c.args.vs.now) in
    let n = c.loop-n.n in
    let e : n ≡ n - 1 + 1 = omega arith in
    let k : n - 1 + 1 ≡ n + 1 - 1 = omega arith in
    subst (λ (i : ℕ). Chosen f i c.lesser-best.result) k
    (chosen_more f (n - 1) c.size_at-in-loop-n.result c.loop-n.best c.lesser-best.result
    (c.size_at-in-loop-n.ensures ∙ ap f e)
    (c.lesser-best.ensures ∙ ap (λ (i : ℕ). lesser_choice c.loop-n.best i c.size_at-in-loop-n.result) e)
    c.loop-n.invariant)

pub returns : goal.returns
unfolding width_of
returns c =
    let e : c.loop-n.n - 1 ≡ 64 = omega arith in
    (c.loop-n.invariant.width ∙ ap (least (column_size 64 (zs_of 64 c.args.vs.now))) e, c.loop-n.invariant.size)
