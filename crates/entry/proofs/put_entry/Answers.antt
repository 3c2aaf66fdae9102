-- `entry::put_entry` puts the fields of one entry: a step's one, or the marker and the full value. Assumes nothing.
use Rattle.std.proofs.Common.{ℕ, ◌+◌, ◌<◌, ◌≤◌, length, sym, ap, subst, arith}
use lib.Pow.{ones_lt}
use Rattle.le.proofs.Puts.{length-put}
use Rattle.entry.specs.Step.{marker}
use Rattle.entry.proofs.Entries.{short-bits, full-bits, least-bits, short-put, full_put}
use Rattle.entry.proofs.put_entry.Goals as goal

pub put_field-requires : goal.put_field-requires
put_field-requires c =
    let z = c.zigzag-z in
    (c.requires.0, omega (arith, ones_lt c.args.n, c.requires.1, c.if-z-m.true), omega (arith, least-bits 64 c.args.n c.args.a c.args.v z.result z.ensures, c.requires.2))

pub put_field-requires-else-z-m : goal.put_field-requires-else-z-m
put_field-requires-else-z-m c =
    let z = c.zigzag-z in
    let le : marker c.args.n ≤ z.result = omega (arith, c.requires.1, c.if-z-m.false) in
    (c.requires.0, omega (arith, ones_lt c.args.n), omega (arith, full-bits 64 c.args.n c.args.a c.args.v z.result z.ensures le, c.requires.2))

pub put_field-requires-else-z-m-2 : goal.put_field-requires-else-z-m-2
put_field-requires-else-z-m-2 c =
    let if1 = c.if-z-m in
    let z = c.zigzag-z in
    let le : marker c.args.n ≤ z.result = omega (arith, c.requires.1, if1.false) in
    (omega arith, c.ranges.v.fits, omega (arith, full-bits 64 c.args.n c.args.a c.args.v z.result z.ensures le, c.requires.2, ap length c.put_field-else-z-m.ensures, length-put c.args.s.now c.args.at c.args.m))

pub returns-then-z-m : goal.returns-then-z-m
returns-then-z-m c =
    let if1 = c.if-z-m in
    let z = c.zigzag-z in
    let lt : z.result < marker c.args.n = subst (λ (x : ℕ). z.result < x) c.requires.1 if1.true in (
      short-put 64 c.args.n c.args.a c.args.v z.result z.ensures c.args.s.now c.put_field.new.s c.args.at lt c.put_field.ensures,
      ap (λ (x : ℕ). c.args.at + x) (sym (short-bits 64 c.args.n c.args.a c.args.v z.result z.ensures lt)),
    )

pub returns-else-z-m : goal.returns-else-z-m
returns-else-z-m c =
    let if1 = c.if-z-m in
    let put-field2 = c.put_field-else-z-m in
    let z = c.zigzag-z in
    let le : marker c.args.n ≤ z.result = subst (λ (x : ℕ). x ≤ z.result) c.requires.1 if1.false in (
      full_put 64 c.args.n c.args.a c.args.v z.result z.ensures c.args.s.now put-field2.new.s c.put_field-else-z-m-2.new.s c.args.at c.args.m c.requires.1 le put-field2.ensures c.put_field-else-z-m-2.ensures,
      omega (arith, full-bits 64 c.args.n c.args.a c.args.v z.result z.ensures le),
    )
