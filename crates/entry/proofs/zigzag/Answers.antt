-- `entry::zigzag` gives the z of the step: the wrapped subtraction is the step, and each half goes by its law. Assumes nothing.
use Rattle.std.proofs.Common.{◌^◌, ◌<◌, arith}
use Rattle.entry.proofs.Steps.{sub-law, zig-low, zig-high}
use Rattle.entry.proofs.zigzag.Goals as goal

pub returns-then-d-lt9223372036854775808 : goal.returns-then-d-lt9223372036854775808
returns-then-d-lt9223372036854775808 c =
    let k = c.wrapping_sub_u64-d in
    zig-low 64 c.args.a c.args.v k.result (sub-law (2 ^ 64) k.result c.args.a c.args.v (omega arith) c.ranges.a.fits k.ensures.value) (omega arith)

pub returns-else-d-lt9223372036854775808 : goal.returns-else-d-lt9223372036854775808
returns-else-d-lt9223372036854775808 c =
    let k = c.wrapping_sub_u64-d in
    let l : k.result < 2 ^ 64 = omega arith in
    zig-high 64 c.args.a c.args.v k.result (sub-law (2 ^ 64) k.result c.args.a c.args.v l c.ranges.a.fits k.ensures.value) (omega arith) l
