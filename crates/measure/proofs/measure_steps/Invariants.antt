-- `measure::measure_steps` gives the sum of the run's values. The invariant: the sum so far and that of the values still to come make it.
-- Assumes nothing.
use Rattle.std.proofs.Common.{◌≡◌, ◌+◌, ◌-◌, ◌%◌, ◌^◌, ◌<◌}
use Rattle.step.specs.Step.{position}
use Rattle.measure.specs.Sum.{sum_of}
use Rattle.measure.proofs.Stepping.{given}
use Rattle.measure.proofs.measure_steps.Given as goal

abbrev pub invariant-loop : goal.invariant-loop
invariant-loop l = (l.sum < 2 ^ 64) × (sum_of (given l.s l.n (l.n + 1) (position 0 0 0 0)) ≡ (l.sum + sum_of (given l.s l.n (l.n + 1 - l.counter) l.p)) % 2 ^ 64)
