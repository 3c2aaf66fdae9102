-- `entry::entry_at` gives the value and the place after it that the entry says, by the entry's two cases. Assumes nothing.
use Rattle.std.proofs.Common.{arith}
use Rattle.le.specs.Number.{number}
use Rattle.entry.proofs.Reading.{given-short, given-full, size-least}
use Rattle.entry.proofs.entry_at.Goals as goal

pub overflow_add-p : goal.overflow_add-p
overflow_add-p c = omega (arith, size-least 64 (number c.args.s.now) c.args.n c.args.at, c.requires.2)

pub overflow_add-result : goal.overflow_add-result
overflow_add-result c =
    let g = given-full 64 (number c.args.s.now) c.args.n c.args.at c.args.a c.field-e.result c.field-e.ensures
    c.args.m c.window.result c.requires.1 c.if-e-m.false c.window.ensures in
    omega (arith, g.1, c.requires.2)

pub returns-then-e-m : goal.returns-then-e-m
returns-then-e-m c =
    given-short 64 (number c.args.s.now) c.args.n c.args.at c.args.a c.field-e.result c.field-e.ensures
    c.args.m c.stepped.result c.requires.1 c.if-e-m.true c.stepped.ensures

pub returns-else-e-m : goal.returns-else-e-m
returns-else-e-m c =
    given-full 64 (number c.args.s.now) c.args.n c.args.at c.args.a c.field-e.result c.field-e.ensures
    c.args.m c.window.result c.requires.1 c.if-e-m.false c.window.ensures
