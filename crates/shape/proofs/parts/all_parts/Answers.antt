-- `shape::parts::all_parts` tests each part: those to come, with the vertices to come, decide. Assumes nothing.
use mathlib.Core.Path.{refl, sym, ◌∙◌}
use native.Mathlib.Omega.{arith}
use Rattle.answer.proofs.Alls.{all_more, all-stop, all_done}
use Rattle.shape.proofs.Parting.{parting-none, parting-there, parting-stands, parting-more, parting-end}
use Rattle.shape.proofs.parts.all_parts.Goals as goal

pub loop-n-init : goal.loop-n-init
loop-n-init g c = (parting-none _ _ _ c.requires.cut, λ test k. refl)

pub slice_bounds-passes-end : goal.slice_bounds-passes-end
slice_bounds-passes-end g c = omega (arith, parting-there _ _ _ _ _ _ c.loop-n.invariant.0 c.loop-n-test.true refl)

pub returns-then-not-passes : goal.returns-then-not-passes
returns-then-not-passes g c = λ test k.
    all-stop test _ _ _ (parting-stands _ _ _ _ _ _ c.loop-n.invariant.0 c.loop-n-test.true refl)
    (sym (k.says _ _ _ c.passes.ensures) ∙ c.if-not-passes.true) (c.loop-n.invariant.1 test k)

pub loop-n-preserved : goal.loop-n-preserved
loop-n-preserved g c = (
  parting-more _ _ _ _ _ _ c.loop-n.invariant.0 c.loop-n-test.true refl,
  λ test k.
      all_more test _ _ _ (parting-stands _ _ _ _ _ _ c.loop-n.invariant.0 c.loop-n-test.true refl)
      (sym (k.says _ _ _ c.passes.ensures) ∙ c.if-not-passes.false) (c.loop-n.invariant.1 test k),
)

pub returns : goal.returns
returns g c = λ test k. all_done test _ _ (parting-end _ _ _ _ _ c.loop-n.invariant.0 c.loop-n-test.false) (c.loop-n.invariant.1 test k)
