-- `corpus::record::span_at` gives a slice that lies in the record and is within its limit; one of no elements lies anywhere. Assumes nothing.
use mathlib.Core.Path.{◌≡◌}
use Prim.Native.Nat.{ℕ, ◌+◌, ◌*◌, ◌≤◌}
use native.Mathlib.Nat.{mul-zero, mul-le-mul_right}
use native.Mathlib.Omega.{arith}
use Rattle.corpus.proofs.record.span_at.Goals as goal

-- no elements, from the first place on, lie in every record
none-fits : (size from count len : ℕ) → from ≡ 0 → count ≡ 0 → from + size * count ≤ len
none-fits size from count len p q = rw (p, q, mul-zero) (omega arith)

pub returns-then-most-count : goal.returns-then-most-count
returns-then-most-count c = (none-fits _ _ _ _ c.nothing-then-most-count.ensures.0 c.nothing-then-most-count.ensures.1, omega arith)

pub overflow_mul-bytes : goal.overflow_mul-bytes
overflow_mul-bytes c = omega (arith, mul-le-mul_right c.u32_at-count.result c.requires)

pub returns-then-len-from : goal.returns-then-len-from
returns-then-len-from c = (none-fits _ _ _ _ c.nothing-then-len-from.ensures.0 c.nothing-then-len-from.ensures.1, omega arith)
