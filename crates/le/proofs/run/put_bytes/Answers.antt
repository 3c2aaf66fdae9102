-- `le::run::put_bytes` puts bytes. The invariant: the first i are put, and nothing else has changed. Assumes nothing.
use Rattle.le.proofs.Runs.{bytes-more}
use Rattle.le.proofs.run.put_bytes.Goals as goal

pub loop-i-preserved : goal.loop-i-preserved
loop-i-preserved c = bytes-more c.args.xs.now c.args.d.now c.loop-i.d c.args.at c.loop-i.i c.loop-i-test.true c.loop-i.invariant
