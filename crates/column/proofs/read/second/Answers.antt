-- `column::read::second` gives where one or two values end, and the second. Assumes nothing.
use mathlib.Core.Path.{◌≡◌}
use native.Mathlib.Omega.{arith}
use Rattle.le.specs.Number.{number}
use Rattle.entry.proofs.Reading.{size-le}
use Rattle.column.proofs.Pairs.{one_value, two-values}
use Rattle.column.proofs.read.second.Goals as goal

pub returns-then-n-eq1 : goal.returns-then-n-eq1
returns-then-n-eq1 c =
    let o = one_value 64 c.args.s.now c.args.n c.args.a c.args.a c.requires.2 c.if-n-eq1.true in
    (o.0, o.1, omega arith)

pub entry_at-requires : goal.entry_at-requires
entry_at-requires c = (c.requires.1, c.marker.ensures, omega (arith, size-le 64 (number c.args.s.now) c.args.w 72 c.requires.1))

pub returns : goal.returns
returns c =
    let e = c.entry_at in
    let two : c.args.n ≡ 2 = omega (arith, c.requires.3, c.requires.4, c.if-n-eq1.false) in
    let o = two-values 64 c.args.s.now c.args.n c.args.a e.result.value c.requires.2 c.args.w e.result.next two c.requires.0 e.ensures in
    (o.0, o.1, omega (arith, e.ensures.1, size-le 64 (number c.args.s.now) c.args.w 72 c.requires.1))
