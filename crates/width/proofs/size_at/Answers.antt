-- `width::size_at` gives S(n): n bits for each step, and 64 for each that is stored in full. Assumes nothing.
use mathlib.Core.Path.{sym, ap₂}
use Prim.Native.Nat.{ℕ, ◌+◌, ◌*◌}
use native.Mathlib.Omega.{arith}
use lib.ListN.{length}
use Rattle.width.specs.Width.{column_size}
use Rattle.width.proofs.Sizes.{length-zs, count-le, steps-le, size_none}
use Rattle.width.proofs.size_at.Goals as goal

pub returns-then-k-eq0 : goal.returns-then-k-eq0
returns-then-k-eq0 c = size_none 64 _ _ c.if-k-eq0.true

pub overflow_mul-result : goal.overflow_mul-result
overflow_mul-result c = omega (arith, steps-le c.args.n (length c.args.vs.now) c.requires.0 c.requires.1)

pub overflow_mul-result-2 : goal.overflow_mul-result-2
overflow_mul-result-2 c = omega (arith, count-le 64 c.args.n c.args.vs.now)

pub overflow_add-result : goal.overflow_add-result
overflow_add-result c = omega (arith, count-le 64 c.args.n c.args.vs.now, steps-le c.args.n (length c.args.vs.now) c.requires.0 c.requires.1)

pub returns : goal.returns
unfolding column_size
returns c = ap₂ (λ (k f : ℕ). c.args.n * k + 64 * f) (sym (length-zs 64 c.args.vs.now)) c.full_steps.ensures
