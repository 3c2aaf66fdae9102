-- `corpus::turn` reads into a part that lies in the buffer, and serves just that part. Assumes nothing.
use mathlib.Core.Path.{sym}
use native.Mathlib.Omega.{arith}
use lib.Seq.{length-take-le}
use Rattle.corpus.proofs.turn.Goals as goal

pub slice_bounds-read_full-end-else-input-n-2 : goal.slice_bounds-read_full-end-else-input-n-2
slice_bounds-read_full-end-else-input-n-2 c = sym (length-take-le _ _ (omega arith))
