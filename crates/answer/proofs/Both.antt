-- Laws of truth values: of one, and of two tests in one. Assumes nothing.
use mathlib.Core.Path.{◌≡◌, refl, sym, ◌∙◌, subst}
use mathlib.Core.Bool.{Bool, true, false, ◌&&◌}
use lib.Dec.{T}

-- a test has one outcome
pub not-true : (t : Bool) → (t ≡ true → ⊥) → t ≡ false
not-true true h = absurd (h refl)
not-true false h = refl

pub no_both : {t : Bool} → t ≡ false → t ≡ true → ⊥
no_both e g = subst T (sym g ∙ e) tt

-- both of two
pub both : {a b : Bool} → a ≡ true → b ≡ true → (a && b) ≡ true
both p q = simp (p, q)

pub both_l : (a b : Bool) → (a && b) ≡ true → a ≡ true
both_l true b e = refl
both_l false b e = e

pub both_r : (a b : Bool) → (a && b) ≡ true → b ≡ true
both_r true b e = e
both_r false b e = absurd (subst T (sym e) tt)

-- the second fails, whatever the first says
pub and-false : (a b : Bool) → b ≡ false → (a && b) ≡ false
and-false true b e = e
and-false false b e = refl

-- by the ways through both: the first decides, or it passes and the second does
pub first-fails : (a b : Bool) → a ≡ false → false ≡ (a && b)
first-fails a b p = simp p

pub then : (a b r : Bool) → a ≡ true → r ≡ b → r ≡ (a && b)
then a b r p q = simp p q
