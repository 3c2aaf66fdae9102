-- `search::flags::list_flags` puts word after word: those of the words to come are still to be put, and there are words while a place is left.
-- Assumes nothing.
use Prim.Native.Nat.{◌≤◌, ◌<◌}
use native.Mathlib.Omega.{arith}
use lib.ListN.{length}
use Rattle.le.specs.Number.{number}
use Rattle.search.specs.Flags.{places_in}
use Rattle.search.proofs.Listing.{flagging-none, flagging-here, flagging-room, flagging-more, flagging-done}
use Rattle.search.proofs.flags.list_flags.Goals as goal

pub loop-k-init : goal.loop-k-init
loop-k-init c = flagging-none (number c.args.flags.now) c.args.out.now

pub list_word-k-requires : goal.list_word-k-requires
list_word-k-requires c =
    let args = c.args in
    let pre = c.requires in
    let x = number args.flags.now in
    let l = c.loop-k in
    let t : l.k < length (places_in 0 262144 x) = omega (arith, c.loop-k-test.true, pre.0) in
    let r : length (places_in 0 262144 x) ≤ length args.out.now = omega (arith, pre.0, pre.1) in
    (flagging-here x _ _ _ _ l.invariant t, rw c.window.ensures (flagging-room x _ _ _ _ l.invariant t r))

pub overflow_add-place : goal.overflow_add-place
overflow_add-place c =
    let args = c.args in
    let pre = c.requires in
    let loop-test = c.loop-k-test in
    let x = number args.flags.now in
    let l = c.loop-k in
    let t : l.k < length (places_in 0 262144 x) = omega (arith, loop-test.true, pre.0) in
    omega (arith, flagging-here x _ _ _ _ l.invariant t)

pub loop-k-smaller : goal.loop-k-smaller
loop-k-smaller c =
    let args = c.args in
    let pre = c.requires in
    let loop-test = c.loop-k-test in
    let x = number args.flags.now in
    let l = c.loop-k in
    let t : l.k < length (places_in 0 262144 x) = omega (arith, loop-test.true, pre.0) in
    omega (arith, flagging-here x _ _ _ _ l.invariant t)

pub loop-k-preserved : goal.loop-k-preserved
loop-k-preserved c =
    let args = c.args in
    let pre = c.requires in
    let loop-test = c.loop-k-test in
    let window = c.window in
    let x = number args.flags.now in
    let l = c.loop-k in
    let t : l.k < length (places_in 0 262144 x) = omega (arith, loop-test.true, pre.0) in
    let e = c.list_word-k.ensures in
    let s = window.ensures in
    flagging-more x _ _ _ _ l.invariant t _ _ (rw (← s) e.1) (rw (← s) e.0)

pub shape_of-out : goal.shape_of-out
shape_of-out c = c.loop-k.invariant.listing.long

pub returns : goal.returns
returns c =
    let x = number c.args.flags.now in
    flagging-done x _ _ _ _ c.loop-k.invariant (omega (arith, c.loop-k-test.false, c.requires.0))
