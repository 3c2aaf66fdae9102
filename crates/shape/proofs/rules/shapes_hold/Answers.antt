-- `shape::rules::shapes_hold` walks over the shapes, or need not. Assumes nothing.
use mathlib.Core.Path.{sym, ◌∙◌}
use Rattle.std.proofs.Common.{rules}
use Rattle.std.proofs.lemmas.Iterator.Search.{all_from_yields_List}
use Rattle.std.proofs.lemmas.Iterator.{YieldsList-from_slice}
use Rattle.shape.proofs.Whiches.{all-spared, all-list}
use Rattle.shape.proofs.rules.shapes_hold.Goals as goal

pub returns-then-all : goal.returns-then-all
returns-then-all g c =
    let spared = g.R.ShapeRule.spared in
    let e = all_from_yields_List spared _ _ c.all.result c.all.ensures.ran (YieldsList-from_slice c.args.lists.types.now cc) (λ x b q k. search rules) in
    c.if-all.true ∙ sym (all-spared spared _ g.met.R.ShapeRule.spared_passes _ _ _ _ _ (sym (e ∙ all-list spared c.args.lists.types.now) ∙ c.if-all.true))
