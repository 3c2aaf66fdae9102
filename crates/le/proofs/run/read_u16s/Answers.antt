-- `le::run::read_u16s` fills the room with the run's numbers. The invariant: the first i are there, and the rest stays. Assumes nothing.
use mathlib.Core.Path.{◌≡◌, sym, ap, ◌∙◌}
use Prim.Native.Nat.{◌<◌}
use native.Mathlib.Omega.{arith}
use lib.ListN.{length, get_or, set}
use Rattle.le.specs.Number.{numbers_at}
use Rattle.le.proofs.Copying.{copy_more}
use Rattle.le.proofs.Runs.{length-numbers, numbers-at, run-whole}
use Rattle.le.proofs.run.read_u16s.Goals as goal

pub loop-i-preserved : goal.loop-i-preserved
loop-i-preserved c =
    let l = c.loop-i in
    let n = length c.args.d.now in
    let src = numbers_at 2 n c.args.s.now c.args.at in
    let h : l.i < length src = omega (arith, length-numbers 2 2 n c.args.s.now c.args.at) in
    let e : c.u16_at.result ≡ get_or src l.i 0 = c.u16_at.ensures.0 ∙ sym (numbers-at 2 2 n c.args.s.now c.args.at l.i (omega arith)) in
    ap (set l.d l.i) e ∙ copy_more src c.args.d.now l.d l.i (omega arith) h l.invariant

pub returns : goal.returns
returns c =
    let l = c.loop-i in
    l.invariant ∙ run-whole 2 (length c.args.d.now) c.args.s.now c.args.at l.i c.args.d.now (omega arith) (omega arith)
