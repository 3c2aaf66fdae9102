-- `extent::bounds::bounds_at` takes the four patterns where they stand. Assumes nothing.
use Rattle.extent.specs.Boxes.{bounds_at}
use Rattle.extent.proofs.bounds.bounds_at.Goals as goal

pub returns : goal.returns
unfolding bounds_at
returns c = λ i. record {
  least_x = c.u64_at.ensures i;
  least_y = c.u64_at-2.ensures i;
  greatest_x = c.u64_at-3.ensures i;
  greatest_y = c.u64_at-4.ensures i;
}
