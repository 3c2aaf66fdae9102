-- `block_in` reads the block's head. Assumes nothing.
use native.Mathlib.Omega.{arith}
use Rattle.block.proofs.Blocks.{present-fits, block-present}
use Rattle.block.proofs.block_in.Goals as goal

pub kind_at-requires : goal.kind_at-requires
kind_at-requires c = omega (arith, present-fits c.args.s.now c.args.at c.requires)

pub overflow_add-result : goal.overflow_add-result
overflow_add-result c = omega (arith, present-fits c.args.s.now c.args.at c.requires, c.well_formed.0.0)

pub u32_at-requires : goal.u32_at-requires
u32_at-requires c = omega (arith, present-fits c.args.s.now c.args.at c.requires)

pub returns : goal.returns
returns c =
    let a = c.args in
    block-present a.s.now a.at c.requires _ _ c.kind_at.ensures c.u32_at.ensures.0
