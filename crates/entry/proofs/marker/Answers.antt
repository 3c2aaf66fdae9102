-- `entry::marker` gives the marker of its width. Width 0 by computing; otherwise n ones out of 64. Assumes nothing.
use Rattle.std.proofs.Common.{sym, ap, arith}
use Rattle.entry.specs.Step.{marker}
use Rattle.entry.proofs.Steps.{marker-law}
use Rattle.entry.proofs.marker.Goals as goal

pub returns-then-n-eq0 : goal.returns-then-n-eq0
returns-then-n-eq0 c = sym (ap marker c.if-n-eq0.true)

pub returns : goal.returns
returns c = marker-law 64 c.args.n (omega arith)
