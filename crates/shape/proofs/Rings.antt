-- Laws of a closed ring, one for each way through it; callers cite these and not the definitions' text. Assumes nothing.
use mathlib.Core.Path.{◌≡◌, refl, sym, ap, ◌∙◌}
use mathlib.Core.Bool.{true, false}
use mathlib.Core.List.{List, [], ◌∷◌}
use Prim.Native.Nat.{ℕ, ◌-◌}
use native.Mathlib.Omega.{arith}
use borrow.Author.Tests.{eq-eqb, ne_eqb}
use lib.Dec.{eqb}
use lib.ListN.{length, get_or}
use Rattle.answer.proofs.Both.{both, first-fails, then}
use Rattle.shape.specs.Outline.{part_with}
use Rattle.shape.specs.Rules.{ends_meet, closed_ring}

-- no vertex
ends-none : (l : List ℕ) → length l ≡ 0 → ends_meet l ≡ true
unfolding ends_meet
ends-none [] h = refl
ends-none (a ∷ l) h = absurd (omega arith)

module _ (xs ys : List ℕ) (same : length ys ≡ length xs) where
  pub ring-none : length xs ≡ 0 → true ≡ closed_ring (part_with xs ys)
  unfolding closed_ring
  ring-none h = sym (both (ends-none xs h) (ends-none ys (same ∙ h)))

  -- the first and the last x are the same, and the y decide
  pub ring_x : get_or xs 0 0 ≡ get_or xs (length xs - 1) 0 → eqb (get_or ys 0 0) (get_or ys (length xs - 1) 0) ≡ closed_ring (part_with xs ys)
  unfolding closed_ring ends_meet
  ring_x e = then (eqb (get_or xs 0 0) (get_or xs (length xs - 1) 0)) _ _ (eq-eqb _ _ e) (ap (λ (n : ℕ). eqb (get_or ys 0 0) (get_or ys (n - 1) 0)) (sym same))

  -- they differ
  pub ring-open : (get_or xs 0 0 ≡ get_or xs (length xs - 1) 0 → ⊥) → false ≡ closed_ring (part_with xs ys)
  unfolding closed_ring ends_meet
  ring-open e = first-fails (eqb (get_or xs 0 0) (get_or xs (length xs - 1) 0)) _ (ne_eqb _ _ e)
