-- `search::hits::shapes_hit` asks each shape of a page and notes it: the shapes to come, with the parts and the vertices to come, are those of the
-- page's walk, and what was noted with what is to come is the whole. Assumes nothing.
use Prim.Native.Nat.{◌+◌}
use lib.ListN.{length}
use Rattle.shape.specs.Outline.{outlines_in}
use Rattle.shape.proofs.Walking.{Walking}
use Rattle.search.proofs.Placing.{Noting}
use Rattle.search.proofs.hits.shapes_hit.Given as goal

abbrev pub invariant-loop-i : goal.invariant-loop-i
invariant-loop-i l = Walking l.lists l.i l.k l.at × Noting l.a l.n (outlines_in l.lists) (l.n + length l.lists.types.now) l.initial.flags l.i l.found l.flags
