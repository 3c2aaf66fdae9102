-- `tail` gives the bits from byte i on. The invariant: `acc` is the number of the bytes from `e` on. Assumes nothing.
use native.Mathlib.Nat.{le_antisymm}
use mathlib.Core.Path.{ap, ap₂, ◌∙◌}
use Prim.Native.Nat.{ℕ, ◌+◌, ◌*◌, ◌-◌}
use native.Mathlib.Omega.{arith}
use lib.ListN.{drop}
use Rattle.le.proofs.Numbers.{empty-law, past-law, tail-lt, tail-law, number_step}
use Rattle.le.specs.Number.{number}
use Rattle.le.proofs.bits.tail.Goals as goal

pub returns-then-n-i : goal.returns-then-n-i
returns-then-n-i c = past-law _ _ 64 (λ i. (c.type_inv.s i).fits) c.if-n-i.true

pub loop-e-init : goal.loop-e-init
loop-e-init c = (omega arith, empty-law c.args.s.now)

pub overflow_mul-acc : goal.overflow_mul-acc
overflow_mul-acc c = omega (arith, tail-lt c.args.s.now c.loop-e.e 7 (λ i. (c.type_inv.s i).fits) (omega arith), c.loop-e.invariant.1)

pub overflow_add-acc : goal.overflow_add-acc
overflow_add-acc c = omega (arith, tail-lt c.args.s.now c.loop-e.e 7 (λ i. (c.type_inv.s i).fits) (omega arith), c.type_inv.s (c.loop-e.e - 1))

pub loop-e-preserved : goal.loop-e-preserved
loop-e-preserved c =
    (omega arith, ap₂ (λ (x y : ℕ). x * 256 + y) c.loop-e.invariant.1 c.wide.ensures ∙ number_step c.args.s.now c.loop-e.e (omega arith) (omega arith))

pub returns : goal.returns
returns c =
    c.loop-e.invariant.1 ∙ ap (λ (k : ℕ). number (drop k c.args.s.now)) (le_antisymm c.loop-e-test.false c.loop-e.invariant.0)
    ∙ tail-law c.args.s.now c.args.i (λ i. (c.type_inv.s i).fits) (omega arith)
