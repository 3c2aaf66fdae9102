-- Rules 12 and 16 by the box of the vertices in value, which one walk makes where all are finite. Assumes nothing.
use mathlib.Core.Path.{◌≡◌, sym, ap, ◌∙◌}
use mathlib.Core.Bool.{Bool, not, ◌&&◌, ◌||◌}
use mathlib.Core.List.{List}
use Prim.Native.Nat.{ℕ}
use lib.Dec.{ltb}
use lib.ListN.{length}
use Rattle.answer.specs.Table as table
use Rattle.answer.specs.Refusal.{because}
use Rattle.answer.specs.Outcome.{refused, ok}
use Rattle.answer.specs.Rule.{rule}
use Rattle.answer.specs.declared.Refusal.{Refusal}
use Rattle.answer.proofs.Rules.{rule-holds, rule-fails}
use Rattle.extent.specs.Rank.{all_finite}
use Rattle.extent.specs.declared.bounds.Bounds.{Bounds}
use Rattle.extent.specs.Boxes.{patterns, same_box, box_of}
use Rattle.extent.specs.Forms.{ValueBox, ValueForm}
use Rattle.extent.specs.declared.boxes.Box.{Box}
use Rattle.std.specs.Option.{is_some}
use Rattle.std.specs.declared.option.Option.{Option}
use Rattle.std.specs.declared.option.Option.TheVariants.{Some, None}
use Rattle.extent.proofs.Sames.{same-same}
use Rattle.shape.specs.Rules.{finite_rule, box_holds, box_rule}

module _ (xs ys : List ℕ) (f : Option Box) (k : ValueForm xs ys f) where
  -- 12: there is a box
  pub finite-holds : (b : Box) → f ≡ Some b → ok tt ≡ finite_rule xs ys
  unfolding finite_rule
  finite-holds b e = sym (rule-holds (all_finite xs && all_finite ys) table.finite (rw e at k).0)

  -- or none
  pub finite-fails : (w : Refusal) → w ≡ because table.finite → f ≡ None → refused w ≡ finite_rule xs ys
  unfolding finite_rule
  finite-fails w q e = ap refused q ∙ sym (rule-fails (all_finite xs && all_finite ys) table.finite (rw e at k))

  -- the box
  pub own-box : (b : Box) → f ≡ Some b → ValueBox xs ys b
  own-box b e = (rw e at k).1

-- 12 asks whether there is one
pub finite-found : (xs ys : List ℕ) (f : Option Box) → ValueForm xs ys f → rule (is_some f) table.finite ≡ finite_rule xs ys
unfolding finite_rule
finite-found xs ys (Some b) k = ap (λ (t : Bool). rule t table.finite) (sym k.0)
finite-found xs ys None k = ap (λ (t : Bool). rule t table.finite) (sym k)

-- 16: the page's box is compared with that
pub box-rule-is : (p : Bounds) (xs ys : List ℕ) (b : Box) → ValueBox xs ys b → rule (not (ltb 0 (length xs)) || same_box p (patterns b)) table.box ≡ box_rule p xs ys
unfolding box_rule box_holds
box-rule-is p xs ys b v = ap (λ (t : Bool). rule (not (ltb 0 (length xs)) || t) table.box) (same-same p (patterns b) (box_of xs ys) v.in_value)
