-- A call's answer as one number, for a caller in C. Assumes nothing.
use Rattle.std.specs.Prelude.{ℕ, ◌*◌, ◌^◌}
use Rattle.answer.specs.Outcome.{Out, refused, ok}

-- 0 where the start of the room was filled, or the refusal's number
unfoldable pub number_of : Out ℕ → ℕ
number_of (ok k) = 0
number_of (refused w) = w.number

-- how many elements were put there, or 2^32 times the refusal's number
unfoldable pub filled_count : Out ℕ → ℕ
filled_count (ok k) = k
filled_count (refused w) = w.number * 2 ^ 32
