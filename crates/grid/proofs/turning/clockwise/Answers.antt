-- `grid::turning::clockwise` meets its contract: a turn below zero is negative. Assumes nothing.
use mathlib.Core.Path.{ap, ◌∙◌}
use lib.IntN.{ℤ, pos}
use lib.Signed.{lt_z}
use mir.Syntax.{w64}
use mir.ValLaws.{to_z-of_z}
use Rattle.grid.proofs.Turns.{below-zero}
use Rattle.grid.proofs.turning.clockwise.Goals as goal

pub returns : goal.returns
returns c = ap (λ (z : ℤ). lt_z z (pos 0)) (to_z-of_z w64 c.args.t c.ranges.t) ∙ below-zero c.args.t
