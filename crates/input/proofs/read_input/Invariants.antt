-- `input::read_input` stays within the room that it is lent, which keeps its length, and counts the bytes that came. Nothing is assumed.
use Rattle.std.proofs.Common.{length, take, ◌-◌, ◌≡◌, ◌≤◌}
use Rattle.std.specs.Io.KnownBytes.{Consumes}
use Rattle.input.proofs.read_input.Given as goal

abbrev pub invariant-loop-done : goal.invariant-loop-done
invariant-loop-done g l = record {
  same_room : length l.room ≡ length l.initial.room;
  fits : l.done ≤ length l.room;
  so_far : Consumes (g.R.Read.remaining l.initial.source) (g.R.Read.remaining l.source) (take l.done l.room);
}

abbrev pub decreases-loop-done : goal.decreases-loop-done
decreases-loop-done g l = length l.initial.room - l.done
