-- Rules 12 to 15, and 16 after them: one law for each way through. Assumes nothing.
use Prim.Native.Nat.{ℕ}
use mathlib.Core.Path.{◌≡◌, sym, ◌∙◌}
use mathlib.Core.List.{List}
use Rattle.answer.specs.Outcome.{Out, on, ok, refused}
use Rattle.answer.specs.declared.Refusal.{Refusal}
use Rattle.answer.proofs.Orders.{then-refused, then-holds}
use Rattle.extent.specs.declared.bounds.Bounds.{Bounds}
use Rattle.shape.specs.Outline.{Outline}
use Rattle.shape.specs.Rules.{finite_rule, box_rule, ring_rules, outline_rules}
use Rattle.shape.proofs.Ruled.{ruled-finite, ruled-rings}

module _ (p : Bounds) (os : List Outline) (xs ys : List ℕ) where
  abbrev whole : Out (Unit {0})
  whole = on (outline_rules os xs ys) (λ _. box_rule p xs ys)

  pub whole-finite : (w : Refusal) → refused w ≡ finite_rule xs ys → refused w ≡ whole
  whole-finite w e = sym (then-refused (outline_rules os xs ys) _ w (ruled-finite os xs ys w e))

  module _ (f : (ok tt) ≡ finite_rule xs ys) where
    pub whole-rings : (w : Refusal) → refused w ≡ ring_rules os → refused w ≡ whole
    whole-rings w e = sym (then-refused (outline_rules os xs ys) _ w (e ∙ sym (ruled-rings os xs ys f)))

    pub whole-box : (v : Out (Unit {0})) → (ok tt) ≡ ring_rules os → v ≡ box_rule p xs ys → v ≡ whole
    whole-box v r e = e ∙ sym (then-holds (outline_rules os xs ys) _ (r ∙ sym (ruled-rings os xs ys f)))
