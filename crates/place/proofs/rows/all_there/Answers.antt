-- `place::rows::all_there` tests each place. Assumes nothing.
use mathlib.Core.Path.{◌∙◌}
use Prim.Native.Nat.{ℕ}
use lib.Dec.{ltb}
use Rattle.std.proofs.Common.{rules}
use Rattle.std.proofs.lemmas.Iterator.Search.{all_from_yields_List}
use Rattle.std.proofs.lemmas.Iterator.{YieldsList-from_slice}
use Rattle.shape.proofs.Whiches.{all-list}
use Rattle.place.proofs.rows.all_there.Goals as goal

pub returns : goal.returns
returns c =
    let there = λ (n : ℕ). ltb n c.args.shapes in
    all_from_yields_List there _ _ _ c.all.ensures.ran (YieldsList-from_slice c.args.places.now cc) (λ x b q k. search rules)
    ∙ all-list there c.args.places.now
