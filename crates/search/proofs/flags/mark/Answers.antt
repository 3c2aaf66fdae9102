-- `search::flags::mark` sets one bit of one byte, and leaves flags that do not reach that far. Assumes nothing.
use mathlib.Core.Path.{ap}
use Prim.Native.Nat.{◌*◌, ◌%◌, ◌^◌}
use lib.Bits.{bit_or}
use Rattle.search.proofs.Marks.{mark-law}
use Rattle.search.proofs.flags.mark.Goals as goal

pub returns-then-i-flags : goal.returns-then-i-flags
returns-then-i-flags c =
    mark-law c.args.flags.now c.args.place _ _ (λ i. (c.slice_known-1.given i).fits) c.low.ensures
    (ap (bit_or ((1 * 2 ^ (c.args.place % 8)) % 2 ^ 64)) c.wide-held.ensures)
