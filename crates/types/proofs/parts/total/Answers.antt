-- `types::parts::total` sums up, in the library's words. Assumes nothing.
use Rattle.std.proofs.Common.{◌<◌, ◌^◌, sum, rules, sym}
use Rattle.types.proofs.Sums.{total_sum}
use Rattle.types.proofs.parts.total.Goals as goal

pub sum-requires-clause-fits : goal.sum-requires-clause-fits
sum-requires-clause-fits c = let h : sum c.args.lens.now < 2 ^ 64 = rw (sym (total_sum c.args.lens.now)) c.requires in search rules

pub returns : goal.returns
returns c = rw total_sum (search rules)
