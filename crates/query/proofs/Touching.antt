-- What a query meets, by each way through the definitions, and that a good query's window is finite. Assumes nothing.
use mathlib.Core.Path.{◌≡◌, refl, sym, ap, ◌∙◌}
use mathlib.Core.Bool.{true, false, ◌&&◌}
use mathlib.Core.List.{List, [], ◌∷◌}
use Prim.Native.Nat.{ℕ, zero, suc, ◌≤◌, ◌<◌}
use native.Mathlib.Omega.{arith}
use lib.ListN.{length}
use lib.Ieee.{Float}
use Rattle.answer.proofs.Both.{both_l, both_r}
use Rattle.extent.specs.Rank.{finite}
use Rattle.extent.specs.declared.bounds.Bounds.{Bounds}
use Rattle.extent.specs.Boxes.{FiniteBox, pattern_of, patterns, good_form, meets, spot_of, box_of}
use Rattle.extent.specs.declared.boxes.Box.{Box}
use Rattle.extent.proofs.Forms.{good-finite}
use Rattle.query.specs.declared.ask.Query.{Query}
use Rattle.query.specs.declared.ask.Query.TheVariants.{Everything, Spot, Window}
use Rattle.query.specs.Ask.{good_query, Reach, nowhere, within, reach_of, stored, in_window, touches}

-- ---- what something takes up

pub reach-some : (xs ys : List ℕ) → 0 < length xs → reach_of xs ys ≡ within (box_of xs ys)
unfolding reach_of
reach-some [] ys h = absurd (omega arith)
reach-some (x ∷ xs) ys h = refl

pub reach-none : (xs ys : List ℕ) → length xs ≤ 0 → reach_of xs ys ≡ nowhere
unfolding reach_of
reach-none [] ys h = refl
reach-none (x ∷ xs) ys h = absurd (omega arith)

pub stored_some : (v : ℕ) (p : Bounds) → 0 < v → stored v p ≡ within p
unfolding stored
stored_some zero p h = absurd (omega arith)
stored_some (suc v) p h = refl

pub stored-none : (v : ℕ) (p : Bounds) → v ≤ 0 → stored v p ≡ nowhere
unfolding stored
stored-none zero p h = refl
stored-none (suc v) p h = absurd (omega arith)

-- ---- what a window meets

pub in_some : (w : Bounds) (r : Reach) (p : Bounds) → r ≡ within p → in_window w r ≡ meets w p
unfolding in_window
in_some w r p e = ap (in_window w) e

pub in-none : (w : Bounds) (r : Reach) → r ≡ nowhere → in_window w r ≡ false
unfolding in_window
in-none w r e = ap (in_window w) e

-- ---- what a query meets

module _ (q : Query) (r : Reach) where
  pub touches-everything : q ≡ Everything → touches q r ≡ true
  unfolding touches
  touches-everything e = ap (λ (k : Query). touches k r) e

  pub touches-spot : (x y : Float) → q ≡ Spot x y → touches q r ≡ in_window (spot_of (pattern_of x) (pattern_of y)) r
  unfolding touches
  touches-spot x y e = ap (λ (k : Query). touches k r) e

  pub touches-window : (b : Box) → q ≡ Window b → touches q r ≡ in_window (patterns b) r
  unfolding touches
  touches-window b e = ap (λ (k : Query). touches k r) e

-- ---- a good query

module _ (q : Query) where
  pub sound-everything : q ≡ Everything → good_query q ≡ true
  unfolding good_query
  sound-everything e = ap good_query e

  pub sound-spot : (x y : Float) → q ≡ Spot x y → good_query q ≡ (finite (pattern_of x) && finite (pattern_of y))
  unfolding good_query
  sound-spot x y e = ap good_query e

  pub sound-window : (b : Box) → q ≡ Window b → good_query q ≡ good_form (patterns b)
  unfolding good_query
  sound-window b e = ap good_query e

  -- its window is finite
  pub spot-finite : (x y : Float) → q ≡ Spot x y → good_query q ≡ true → FiniteBox (spot_of (pattern_of x) (pattern_of y))
  spot-finite x y e s =
      let h = sym (sound-spot x y e) ∙ s in
      let f = both_l (finite (pattern_of x)) (finite (pattern_of y)) h in
      let g = both_r (finite (pattern_of x)) (finite (pattern_of y)) h in
      record { least_x = f; least_y = g; greatest_x = f; greatest_y = g }

  pub window-finite : (b : Box) → q ≡ Window b → good_query q ≡ true → FiniteBox (patterns b)
  window-finite b e s = good-finite (patterns b) (sym (sound-window b e) ∙ s)
