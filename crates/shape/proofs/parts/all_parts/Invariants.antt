-- `shape::parts::all_parts` tests each part: those to come, with the vertices to come, decide. Assumes nothing.
use mathlib.Core.Path.{◌≡◌}
use mathlib.Core.Bool.{Bool}
use lib.ListN.{drop}
use Rattle.answer.specs.All.{all_of}
use Rattle.shape.specs.Outline.{Part, parts_of}
use Rattle.shape.specs.Parts.{Tests}
use Rattle.shape.proofs.Parting.{Parting}
use Rattle.shape.proofs.parts.all_parts.Given as goal

abbrev pub invariant-loop-n : goal.invariant-loop-n
invariant-loop-n g l =
    Parting l.lens l.xs l.ys l.n-index l.at
    × ((test : Part → Bool) → Tests g.F.Fn l.passes test → all_of test (drop l.n-index (parts_of l.lens l.xs l.ys)) ≡ all_of test (parts_of l.lens l.xs l.ys))
