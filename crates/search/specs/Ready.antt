-- What asking the shapes of a page counts on, since rule 12 has passed: for inner walks; no service speaks of it. Assumes nothing.
use Rattle.std.specs.Prelude.{◌≡◌, true}
use Rattle.extent.specs.Rank.{all_finite}
use Rattle.shape.specs.declared.lists.Lists.{Lists}

-- a page's lists with every vertex finite
pub record Askable (p : Lists) : Type 0 where
  pub finite_x : all_finite p.xs.now ≡ true
  pub finite_y : all_finite p.ys.now ≡ true
