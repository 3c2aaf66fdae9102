-- `writer::blocks::put_end` puts the head of the end block and the two counts. Assumes nothing.
use Rattle.writer.proofs.Ends.{end-put}
use Rattle.writer.proofs.blocks.put_end.Goals as goal

pub returns : goal.returns
returns c = end-put _ _ _ _ _ _ _ c.put_head.ensures c.put_u32.ensures c.put_u32-2.ensures
