-- `list::main` prints what was read, which lies within its buffer. Nothing is assumed.
use Rattle.input.proofs.Withins.{within-is}
use Rattle.list.proofs.main.Goals as goal

pub slice_bounds-bytes-end : goal.slice_bounds-bytes-end
slice_bounds-bytes-end c = (within-is _ _ c.in-Ok.n c.read_input.ensures.within c.in-Ok.is).0

pub slice_bounds-print-end : goal.slice_bounds-print-end
slice_bounds-print-end c = (within-is _ _ c.in-Ok.n c.read_input.ensures.within c.in-Ok.is).1
