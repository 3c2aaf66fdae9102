-- `top` gives what is left of v above 64 - k bits. Assumes nothing.
use mathlib.Core.Path.{sym, ap, ◌∙◌}
use Prim.Native.Nat.{ℕ, ◌/◌, ◌^◌, ◌-◌}
use native.Mathlib.Nat.{div-eq_of_lt}
use native.Mathlib.Omega.{arith}
use Rattle.le.proofs.Fields.{top-law}
use Rattle.le.proofs.bits.top.Goals as goal

pub returns-then-k-eq0 : goal.returns-then-k-eq0
returns-then-k-eq0 c = sym (ap (λ (k : ℕ). c.args.v / 2 ^ (64 - k)) c.if-k-eq0.true ∙ div-eq_of_lt c.ranges.v.fits)

pub returns : goal.returns
returns c = c.low.ensures ∙ top-law c.args.v c.args.k (omega arith) c.ranges.v.fits
