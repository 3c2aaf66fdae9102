-- `input::read_input` stays within the room that it is lent, and what came stands at its start. Nothing is assumed.
use Rattle.std.proofs.Common.{rules, ◌≡◌, ◌-◌, length, arith}
use Rattle.std.proofs.lemmas.Result.{err_from_is_err_and}
use Rattle.io.proofs.Counting.{prefix_len_of_le}
use Rattle.input.specs.Within.{Within, Came}
use Rattle.input.proofs.Steps.{came_more, came_none, came_kept}
use borrow.Rule.Slice.PartMut.{put_mid}
use Rattle.input.proofs.read_input.Goals as goal

pub loop-done-preserved : goal.loop-done-preserved
loop-done-preserved g c =
    let l = c.loop-done in record {
      same_room = search rules;
      fits = search rules;
      so_far = came_more _ _ _ l.done (length l.room - l.done) c.in_ok-more.more l.room c.read.new.buf l.invariant.fits c.in_ok-more.ensures.bound.0 l.invariant.so_far c.in_ok-more.ensures.bytes.0;
    }

pub returns-then-more-eq0-clause-within : goal.returns-then-more-eq0-clause-within
unfolding Within
returns-then-more-eq0-clause-within g c =
    let l = c.loop-done in
    let left = put_mid l.done (length l.room - l.done) l.room c.read.new.buf in
    prefix_len_of_le l.done left (let h : length left ≡ length l.room = search rules in omega arith)

pub returns-then-more-eq0-clause-came : goal.returns-then-more-eq0-clause-came
unfolding Came
returns-then-more-eq0-clause-came g c =
    let l = c.loop-done in
    let last = came_none _ _ _ l.done (length l.room - l.done) c.in_ok-more.more l.room c.read.new.buf l.invariant.fits c.if-more-eq0.true l.invariant.so_far c.in_ok-more.ensures.bytes.0 in
    (last, λ _. c.in_ok-more.ensures.bytes.1 c.if-more-eq0.true (search rules))

pub returns-in_err-more-clause-within : goal.returns-in_err-more-clause-within
unfolding Within
returns-in_err-more-clause-within g c = rw (err_from_is_err_and c.from_residual.result c.from_residual.ensures.1).1 tt

pub returns-in_err-more-clause-came : goal.returns-in_err-more-clause-came
unfolding Came
returns-in_err-more-clause-came g c =
    let l = c.loop-done in
    rw (err_from_is_err_and c.from_residual.result c.from_residual.ensures.1).1
    (l.done, came_kept _ _ _ l.done (length l.room - l.done) l.room c.read.new.buf l.invariant.fits l.invariant.so_far c.in_err-more.ensures.bytes)

pub returns-clause-within : goal.returns-clause-within
unfolding Within
returns-clause-within g c = prefix_len_of_le c.loop-done.done c.loop-done.room c.loop-done.invariant.fits

pub returns-clause-came : goal.returns-clause-came
unfolding Came
returns-clause-came g c = (c.loop-done.invariant.so_far, λ h. absurd (omega arith))
