-- `width::full_steps` counts the steps at or over the marker. The invariant: the count so far and the full steps that are left, after the
-- value passed last, make all of them. Assumes nothing.
use mathlib.Core.Path.{◌≡◌}
use Prim.Native.Nat.{◌+◌}
use lib.ListN.{drop}
use Rattle.width.specs.Width.{zs_after, zs_of, fulls}
use Rattle.width.proofs.full_steps.Given as goal

abbrev pub invariant-loop-v : goal.invariant-loop-v
invariant-loop-v l = l.count + fulls l.n (zs_after 64 l.a (drop (l.v-index + 1) l.vs)) ≡ fulls l.n (zs_of 64 l.vs)
