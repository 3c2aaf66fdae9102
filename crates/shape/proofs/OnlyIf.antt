-- A test that is made only if another passes. Assumes nothing.
use mathlib.Core.Path.{◌≡◌, refl, ◌∙◌}
use mathlib.Core.Bool.{Bool, true, false, not, ◌||◌}

module _ (a b : Bool) where
  -- it is not made
  pub skipped : a ≡ false → not a ≡ (not a || b)
  skipped e = simp e

  -- it decides
  pub decides : (r : Bool) → a ≡ true → r ≡ b → r ≡ (not a || b)
  decides r e h = simp e h

  -- where both say yes, it passed
  pub decided : a ≡ true → (not a || b) ≡ true → b ≡ true
  decided e h = decides b e refl ∙ h
