-- `each` gives what one register takes, edition by edition. Assumes nothing.
use mathlib.Core.Path.{refl}
use Rattle.frame.specs.Layout.{each}
use Rattle.frame.proofs.layout.each.Goals as goal

pub returns : goal.returns
unfolding each
returns c = refl
