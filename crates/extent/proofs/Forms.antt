-- A box that came as four patterns: when it is good, and that its floats have these patterns. Assumes nothing.
use Rattle.std.proofs.Common.{◌≡◌, ℕ, Bool, true, false, cond, sym, refl, ap, ◌∙◌, arith}
use lib.Ieee.{binary64}
use lib.Ieee.Bits.{of_bits-to_bits}
use Rattle.answer.proofs.Both.{both, both_l, both_r}
use Rattle.extent.specs.Rank.{finite}
use Rattle.extent.specs.declared.bounds.Bounds.{Bounds}
use Rattle.extent.specs.Boxes.{Words, FiniteBox, patterns, four_finite, in_order, good_form, spot_of}
use Rattle.extent.specs.Forms.{floats_of, FitsBox, form_of}
use Rattle.extent.specs.declared.boxes.Box.{Box}
use Rattle.std.specs.declared.option.Option.TheVariants.{Some, None}
use Rattle.extent.proofs.Ranks.{at-most-refl}
use Rattle.extent.proofs.Patterns.{bits_back}
use Rattle.extent.proofs.Finite.{finite-box, four-finite}

-- ---- good form is finite and in order

pub good-finite : (p : Bounds) → good_form p ≡ true → FiniteBox p
unfolding good_form
good-finite p e = finite-box p (both_l (four_finite p) (in_order p) e)

pub good-order : (p : Bounds) → good_form p ≡ true → in_order p ≡ true
unfolding good_form
good-order p e = both_r (four_finite p) (in_order p) e

pub order-good : (p : Bounds) → four_finite p ≡ true → in_order p ≡ true → good_form p ≡ true
unfolding good_form
order-good p f o = both f o

-- a spot
pub spot-good : (x y : ℕ) → finite x ≡ true → finite y ≡ true → good_form (spot_of x y) ≡ true
spot-good x y f g =
    order-good (spot_of x y) (four-finite (spot_of x y) (record { least_x = f; least_y = g; greatest_x = f; greatest_y = g }))
    (unfold in_order in both (at-most-refl x) (at-most-refl y))

-- ---- the two ends of the code

pub form-made : (p : Bounds) (b : Box) → good_form p ≡ true → b ≡ floats_of p → Some b ≡ form_of p
unfolding form_of
form-made p b g e = simp g (ap Some e)

pub form-not-good : (p : Bounds) → good_form p ≡ false → None ≡ form_of p
unfolding form_of
form-not-good p g = simp g

-- ---- what an answer says

-- whatever the test is that a good form passes
pub tested-good : (t : Bool) (p : Bounds) (b : Box) → cond t (Some (floats_of p)) None ≡ Some b → (t ≡ true) × (b ≡ floats_of p)
tested-good true p b e = (refl, cc)
tested-good false p b e = let z : ◌≡◌ {A = ℕ} 0 1 = cc in absurd (omega arith)

pub tested-bad : (t : Bool) (p : Bounds) → cond t (Some (floats_of p)) None ≡ None → t ≡ false
tested-bad true p e = let z : ◌≡◌ {A = ℕ} 0 1 = cc in absurd (omega arith)
tested-bad false p e = refl

pub form-good : (p : Bounds) (b : Box) → form_of p ≡ Some b → (good_form p ≡ true) × (b ≡ floats_of p)
unfolding form_of
form-good p = tested-good (good_form p) p

pub form-bad : (p : Bounds) → form_of p ≡ None → good_form p ≡ false
unfolding form_of
form-bad p = tested-bad (good_form p) p

-- ---- patterns and floats

-- the patterns of the floats of four finite patterns are those
pub floats-patterns : (p : Bounds) → Words p → FiniteBox p → patterns (floats_of p) ≡ p
floats-patterns p w f i = record {
  least_x = bits_back p.least_x w.least_x f.least_x i;
  least_y = bits_back p.least_y w.least_y f.least_y i;
  greatest_x = bits_back p.greatest_x w.greatest_x f.greatest_x i;
  greatest_y = bits_back p.greatest_y w.greatest_y f.greatest_y i;
}

-- the floats of a box's patterns: two boxes with the same patterns are one
pub floats-back : (b : Box) → FitsBox b → floats_of (patterns b) ≡ b
floats-back b f i = record {
  least_x = of_bits-to_bits binary64 b.least_x f.least_x i;
  least_y = of_bits-to_bits binary64 b.least_y f.least_y i;
  greatest_x = of_bits-to_bits binary64 b.greatest_x f.greatest_x i;
  greatest_y = of_bits-to_bits binary64 b.greatest_y f.greatest_y i;
}

pub box-determined : (a b : Box) → FitsBox a → FitsBox b → patterns a ≡ patterns b → a ≡ b
box-determined a b f g e = sym (floats-back a f) ∙ ap floats_of e ∙ floats-back b g
