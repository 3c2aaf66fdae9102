-- `entry::entry_inside` gives the value and the place after it that the entry says, by the entry's two cases. Assumes nothing.
use Rattle.le.specs.Number.{number}
use Rattle.entry.proofs.Reading.{given-short, given-full}
use Rattle.entry.proofs.entry_inside.Goals as goal

pub returns-then-e-m : goal.returns-then-e-m
returns-then-e-m c =
    given-short 64 (number c.args.s.now) c.args.n c.args.at c.args.a c.field_within-e.result c.field_within-e.ensures
    c.args.m c.stepped.result c.requires.1 c.if-e-m.true c.stepped.ensures

pub returns-else-e-m : goal.returns-else-e-m
returns-else-e-m c =
    given-full 64 (number c.args.s.now) c.args.n c.args.at c.args.a c.field_within-e.result c.field_within-e.ensures
    c.args.m c.window_within.result c.requires.1 c.if-e-m.false c.window_within.ensures
