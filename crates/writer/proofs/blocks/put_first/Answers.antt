-- `writer::blocks::put_first` puts the head of the first block and the edition. Assumes nothing.
use Rattle.writer.proofs.Ends.{first-put}
use Rattle.writer.proofs.blocks.put_first.Goals as goal

pub returns : goal.returns
returns c = first-put _ _ _ c.put_head.ensures c.put_u16.ensures
