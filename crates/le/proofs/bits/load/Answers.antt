-- `load` gives the 64 bits from byte i on, whether eight bytes are there or fewer. Assumes nothing.
use mathlib.Core.Path.{◌∙◌}
use Rattle.le.proofs.Numbers.{number-at}
use Rattle.le.proofs.bits.load.Goals as goal

pub returns-then-i-s : goal.returns-then-i-s
returns-then-i-s c = c.u64_at.ensures ∙ number-at 8 _ _ (λ i. (c.shared_slice_known-1.given i).fits)
