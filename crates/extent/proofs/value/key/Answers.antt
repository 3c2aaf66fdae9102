-- `extent::value::key` raises the rank by 2 ^ 63: by the sign bit it is the definition's number. Assumes nothing.
use Rattle.std.proofs.Common.{sym, arith, rules}
use Rattle.extent.proofs.Keys.{key-plus, key-minus}
use Rattle.extent.proofs.value.key.Goals as goal

pub returns-then-b-lt9223372036854775808 : goal.returns-then-b-lt9223372036854775808
returns-then-b-lt9223372036854775808 c = sym (key-plus c.args.b c.if-b-lt9223372036854775808.true)

pub returns : goal.returns
returns c =
    let k = key-minus c.args.b c.if-b-lt9223372036854775808.false (search rules) in
    omega (arith, k, c.wrapping_sub_u64.ensures)
