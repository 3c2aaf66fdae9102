-- `byte` gives the byte at i, 0 past the end. Assumes nothing.
use mathlib.Core.Path.{sym, ◌∙◌}
use Rattle.le.proofs.Numbers.{byte_at, past-law}
use Rattle.le.proofs.bits.byte.Goals as goal

pub returns-then-i-s : goal.returns-then-i-s
returns-then-i-s c = c.wide.ensures ∙ sym (byte_at _ _ (λ i. (c.shared_slice_known-then-i-s-1.given i).fits))

pub returns-else-i-s : goal.returns-else-i-s
returns-else-i-s c = past-law _ _ 8 (λ i. (c.shared_slice_known-1.given i).fits) c.if-i-s.false
