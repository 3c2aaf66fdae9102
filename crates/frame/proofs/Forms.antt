-- Laws of the box of a page with v vertices: when its form is good. Assumes nothing.
use Prim.Native.Nat.{ℕ}
use mathlib.Core.Path.{◌≡◌, refl, ap, ◌∙◌}
use mathlib.Core.Bool.{Bool, true, false, cond}
use lib.Dec.{eqb}
use borrow.Author.Tests.{eq-eqb, ne_eqb, eqb-true}
use Rattle.extent.specs.Rank.{finite}
use Rattle.extent.specs.declared.bounds.Bounds.{Bounds}
use Rattle.extent.specs.Boxes.{FiniteBox, good_form, spot_of}
use Rattle.extent.proofs.Tests.{all-four}
use Rattle.extent.proofs.Forms.{spot-good, good-finite}
use Rattle.frame.specs.Head.{all_zero, box_ok}

-- ---- all zero bytes

pub zero_is : (p : Bounds) → all_zero p ≡ true → p ≡ spot_of 0 0
unfolding all_zero
zero_is p e i =
    let f = all-four (eqb p.least_x 0) (eqb p.least_y 0) (eqb p.greatest_x 0) (eqb p.greatest_y 0) e in
    record {
      least_x = eqb-true p.least_x 0 f.0 i;
      least_y = eqb-true p.least_y 0 f.1 i;
      greatest_x = eqb-true p.greatest_x 0 f.2 i;
      greatest_y = eqb-true p.greatest_y 0 f.3 i;
    }

-- they are a box too
pub zero-good : (p : Bounds) → all_zero p ≡ true → good_form p ≡ true
unfolding finite
zero-good p e = ap good_form (zero_is p e) ∙ spot-good 0 0 refl refl

-- ---- the form, with no vertex and with some

pub box-none : (v : ℕ) (p : Bounds) → v ≡ 0 → box_ok v p ≡ all_zero p
unfolding box_ok
box-none v p e = simp (eq-eqb v 0 e)

pub box-some : (v : ℕ) (p : Bounds) → (v ≡ 0 → ⊥) → box_ok v p ≡ good_form p
unfolding box_ok
box-some v p n = simp (ne_eqb v 0 n)

-- in both cases it is a box
pub box-good : (v : ℕ) (p : Bounds) → box_ok v p ≡ true → good_form p ≡ true
unfolding box_ok
box-good v p = go (eqb v 0)
  where
    go : (t : Bool) → cond t (all_zero p) (good_form p) ≡ true → good_form p ≡ true
    go true e = zero-good p e
    go false e = e

pub box-finite : (v : ℕ) (p : Bounds) → box_ok v p ≡ true → FiniteBox p
box-finite v p e = good-finite p (box-good v p e)
