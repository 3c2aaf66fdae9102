-- `window_within` gives the 64 bits from a bit place on, from nine bytes that are there. Assumes nothing.
use mathlib.Core.Path.{sym, ◌∙◌}
use Prim.Native.Nat.{◌+◌, ◌/◌}
use native.Mathlib.Omega.{arith}
use Rattle.le.specs.Number.{number}
use Rattle.le.proofs.Numbers.{byte_at, number-at}
use Rattle.le.proofs.Fields.{nine-law}
use Rattle.le.proofs.bits.window_within.Goals as goal

pub overflow_mul-hi : goal.overflow_mul-hi
overflow_mul-hi c = omega (arith, c.shared_slice_known-2-1.given (c.args.at / 8 + 8))

pub returns : goal.returns
returns c =
    let a = c.args in
    nine-law (number a.s.now) a.at c.wide-hi.result c.u64_at.result
    (c.wide-hi.ensures ∙ sym (byte_at a.s.now (a.at / 8 + 8) (λ i. (c.shared_slice_known-2-1.given i).fits))) (c.u64_at.ensures ∙ number-at 8 _ _ (λ i. (c.shared_slice_known-2-1.given i).fits))
