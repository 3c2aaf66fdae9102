-- `column::read::through` decodes into its scratch and copies, or passes the refusal on. Assumes nothing.
use Rattle.column.proofs.Decoding.{passed-refused, passed-values}
use Rattle.column.proofs.read.through.Goals as goal

pub returns-in-Ok : goal.returns-in-Ok
returns-in-Ok c = passed-values c.args.out.now c.in-Ok.k c.copy.new.dst (rw c.in-Ok.is at c.decode.ensures) c.copy.ensures

pub returns-in-Err : goal.returns-in-Err
returns-in-Err c = passed-refused c.args.out.now c.in-Err.w (rw c.in-Err.is at c.decode.ensures)
