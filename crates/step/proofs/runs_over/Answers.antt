-- `reader::runs_over` says whether the next place passes 64 bits, by the entry's size. Assumes nothing.
use Rattle.le.specs.Number.{number}
use Rattle.step.proofs.Calls.{over_none, over-short, over-full}
use Rattle.step.proofs.runs_over.Goals as goal

pub returns-then-at-lt18446744073709551360 : goal.returns-then-at-lt18446744073709551360
returns-then-at-lt18446744073709551360 c = let a = c.args in over_none (number a.s.now) a.w a.at c.requires.0 c.if-at-lt18446744073709551360.true

pub returns-then-field-m : goal.returns-then-field-m
returns-then-field-m c =
    over-short (number c.args.s.now) c.args.w c.args.at c.field.result c.args.m c.ranges.at.fits c.field.ensures c.requires.1 c.if-field-m.true

pub returns-else-field-m : goal.returns-else-field-m
returns-else-field-m c =
    over-full (number c.args.s.now) c.args.w c.args.at c.field.result c.args.m c.ranges.at.fits c.field.ensures c.requires.1 c.if-field-m.false
