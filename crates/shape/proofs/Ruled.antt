-- Rules 12 to 15 in order: one law for each way through, and what it means that all have passed. Assumes nothing.
use Prim.Native.Nat.{ℕ}
use mathlib.Core.Path.{◌≡◌, sym, ◌∙◌}
use mathlib.Core.Bool.{true}
use mathlib.Core.List.{List}
use Rattle.answer.specs.Outcome.{ok, Out, refused}
use Rattle.answer.specs.declared.Refusal.{Refusal}
use Rattle.answer.proofs.Outcomes.{on-ok}
use Rattle.extent.specs.Rank.{all_finite}
use Rattle.answer.specs.All.{all_of}
use Rattle.shape.specs.Outline.{Outline}
use Rattle.shape.specs.Rules.{finite_rule, ring_rule, grid_rule, turn_rule, on_grid_shape, ring_rules, outline_rules}
use Rattle.shape.proofs.Passing.{finite-passed, grid-passed}
use Rattle.answer.proofs.Orders.{then-refused, then-holds}

-- before 15, that all are on grid
pub grid-held : (os : List Outline) → (ok tt) ≡ grid_rule os → all_of on_grid_shape os ≡ true
grid-held os e = grid-passed os tt (sym e)

-- 13, 14, 15
module _ (os : List Outline) where
  pub ruled-ring : (w : Refusal) → refused w ≡ ring_rule os → refused w ≡ ring_rules os
  unfolding ring_rules
  ruled-ring w e = sym (then-refused (ring_rule os) _ w e)

  module _ (r : (ok tt) ≡ ring_rule os) where
    pub ruled-grid : (w : Refusal) → refused w ≡ grid_rule os → refused w ≡ ring_rules os
    unfolding ring_rules
    ruled-grid w e = sym (then-holds (ring_rule os) _ r ∙ then-refused (grid_rule os) _ w e)

    pub ruled-turn : (v : Out (Unit {0})) → (ok tt) ≡ grid_rule os → v ≡ turn_rule os → v ≡ ring_rules os
    unfolding ring_rules
    ruled-turn v g e = e ∙ sym (then-holds (ring_rule os) _ r ∙ then-holds (grid_rule os) _ g)

-- 12, and then those
module _ (os : List Outline) (xs ys : List ℕ) where
  pub ruled-finite : (w : Refusal) → refused w ≡ finite_rule xs ys → refused w ≡ outline_rules os xs ys
  unfolding outline_rules
  ruled-finite w e = sym (then-refused (finite_rule xs ys) _ w e)

  pub ruled-rings : (ok tt) ≡ finite_rule xs ys → outline_rules os xs ys ≡ ring_rules os
  unfolding outline_rules ring_rules
  ruled-rings f = then-holds (finite_rule xs ys) _ f

-- all have passed: so all coordinates are finite
pub ruled-all : (os : List Outline) (xs ys : List ℕ) → outline_rules os xs ys ≡ ok tt → (all_finite xs ≡ true) × (all_finite ys ≡ true)
unfolding outline_rules
ruled-all os xs ys e = let f = on-ok (finite_rule xs ys) _ tt e in finite-passed xs ys f.0 f.1
