-- `search::flags::list_word` puts bit after bit: those of what is left of the word are still to be put. Assumes nothing.
use native.Mathlib.Omega.{arith}
use Rattle.search.proofs.Listing.{wording-none, wording-here, wording-room, wording-more, wording-done, half-less}
use Rattle.search.proofs.flags.list_word.Goals as goal

pub loop-y-init : goal.loop-y-init
loop-y-init c = wording-none _ _ _ _ c.ranges.x.fits

pub list_bit-k-requires : goal.list_bit-k-requires
list_bit-k-requires c =
    let w = c.loop-y.invariant in
    (omega (arith, wording-here _ _ _ _ _ _ _ _ w c.loop-y-test.true, c.requires.0), wording-room _ _ _ _ _ _ _ _ w c.loop-y-test.true c.requires.1)

pub overflow_add-place : goal.overflow_add-place
overflow_add-place c =
    let pre = c.requires in
    let loop = c.loop-y in
    let loop-test = c.loop-y-test in
    omega (arith, wording-here _ _ _ _ _ _ _ _ loop.invariant loop-test.true, pre.0)

pub loop-y-smaller : goal.loop-y-smaller
loop-y-smaller c = half-less _ c.loop-y-test.true

pub loop-y-preserved : goal.loop-y-preserved
loop-y-preserved c =
    let loop = c.loop-y in
    let loop-test = c.loop-y-test in
    wording-more _ _ _ _ _ _ _ _ loop.invariant loop-test.true _ _ c.list_bit-k.ensures.1 c.list_bit-k.ensures.0

pub shape_of-out : goal.shape_of-out
shape_of-out c = c.loop-y.invariant.listing.long

pub returns : goal.returns
returns c = wording-done _ _ _ _ _ _ _ _ c.loop-y.invariant c.loop-y-test.false
