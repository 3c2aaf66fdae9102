-- `types::parts::sum_is` takes the part lengths from v, one after the other: those to come must make what is left of it. Assumes nothing.
use mathlib.Core.Path.{◌≡◌, sym}
use native.Mathlib.Omega.{arith}
use borrow.Author.Tests.{ne_eqb}
use Rattle.types.specs.Parts.{total}
use Rattle.types.proofs.Sums.{total-from, total-end, spent}
use Rattle.types.proofs.parts.sum_is.Goals as goal

pub returns-then-left-n : goal.returns-then-left-n
returns-then-left-n c =
    let a = c.args in
    sym (ne_eqb (total a.lens.now) a.v (λ (e : total a.lens.now ≡ a.v). omega (arith, total-from a.lens.now c.loop-n.n-index c.loop-n-test.true)))

pub loop-n-preserved : goal.loop-n-preserved
loop-n-preserved c = omega (arith, total-from c.args.lens.now c.loop-n.n-index c.loop-n-test.true)

pub returns : goal.returns
returns c = spent c.loop-n.left (total c.args.lens.now) c.args.v (omega (arith, total-end c.args.lens.now c.loop-n.n-index c.loop-n-test.false))
