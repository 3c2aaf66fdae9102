-- `column::write::fit` gives the width and the size in bytes, none for no values. Assumes nothing.
use mathlib.Core.Path.{◌≡◌, ap, ◌∙◌}
use Prim.Native.Nat.{ℕ, ◌+◌, ◌/◌, ◌<◌}
use native.Mathlib.Omega.{arith}
use lib.ListN.{length}
use Rattle.column.proofs.Writing.{fitted_none, fitted-some, fitted-small}
use Rattle.column.proofs.write.fit.Goals as goal

pub returns-then-vs-eq0 : goal.returns-then-vs-eq0
returns-then-vs-eq0 c = (c.choose-c.ensures.0, fitted_none 64 c.args.vs.now c.if-vs-eq0.true)

pub overflow_add-result : goal.overflow_add-result
overflow_add-result c =
    let k = c.choose-c in
    let l : 0 < length c.args.vs.now = omega (arith, c.if-vs-eq0.false) in
    omega (arith, fitted-small 64 k.result.width k.result.size c.args.vs.now l k.ensures.0 k.ensures.1, c.requires)

pub returns : goal.returns
returns c =
    let k = c.choose-c in
    let l : 0 < length c.args.vs.now = omega (arith, c.if-vs-eq0.false) in
    let e : k.result.size + 79 ≡ 8 + 64 + k.result.size + 7 = omega arith in
    (k.ensures.0, ap (λ (x : ℕ). x / 8) e ∙ fitted-some 64 k.result.width k.result.size c.args.vs.now l k.ensures.0 k.ensures.1)
