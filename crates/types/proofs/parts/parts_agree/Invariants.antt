-- `types::parts::parts_agree` holds each shape's parts against the table: the shapes to come, with the parts to come, decide. Assumes nothing.
use lib.ListN.{length}
use Rattle.types.proofs.Agreeing.{Agreeing}
use Rattle.types.proofs.parts.parts_agree.Given as goal

abbrev pub invariant-loop-t : goal.invariant-loop-t
invariant-loop-t l = Agreeing l.types l.counts l.lens (length l.yielded) l.k
