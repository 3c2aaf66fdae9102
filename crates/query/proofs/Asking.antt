-- What is asked of a shape and of its page: a hit is in a page that is opened, so that a page that isn't opened has none; everything meets whatever
-- there is, and nothing else meets what has no vertex. Assumes nothing.
use mathlib.Core.Path.{◌≡◌, refl, sym, ap, ◌∙◌, subst}
use mathlib.Core.Bool.{true, false}
use mathlib.Core.List.{List, [], ◌∷◌}
use Prim.Native.Nat.{ℕ, zero, suc, ◌-◌, ◌≤◌, ◌<◌, min}
use native.Mathlib.Omega.{arith}
use lib.ListN.{length, take, drop, length-take, length-drop}
use Rattle.answer.proofs.Both.{not-true, no_both}
use Rattle.extent.specs.declared.bounds.Bounds.{Bounds}
use Rattle.extent.specs.Boxes.{same_box, meets, box_of}
use Rattle.extent.proofs.Boxed.{Covers, covers-part}
use Rattle.extent.proofs.Meeting.{covers-meets, meets-sym}
use Rattle.extent.proofs.Sames.{same_meets}
use Rattle.query.specs.declared.ask.Ask.{Ask}
use Rattle.query.specs.declared.ask.Query.{Query}
use Rattle.query.specs.declared.ask.Query.TheVariants.{Everything, Spot, Window}
use Rattle.query.specs.Ask.{Reach, nowhere, reach_of, stored, in_window, touches, hit, opens}
use Rattle.query.proofs.Touching.{reach-some, reach-none, stored_some, stored-none, in_some, in-none, touches-everything}

-- ---- a page's box covers that of each part of its vertices

-- a part that has a vertex, taken no further than the end
take-cut : (n : ℕ) (l : List ℕ) → take n l ≡ take (min n (length l)) l
take-cut n l = go n l (min n (length l)) (omega arith)
  where
    go : (n : ℕ) (l : List ℕ) (k : ℕ) → k ≡ min n (length l) → take n l ≡ take k l
    go zero l zero e = refl
    go zero l (suc k) e = absurd (omega arith)
    go (suc n) [] zero e = refl
    go (suc n) [] (suc k) e = absurd (omega arith)
    go (suc n) (x ∷ l) zero e = absurd (omega arith)
    go (suc n) (x ∷ l) (suc k) e = ap (λ (r : List ℕ). x ∷ r) (go n l k (omega arith))

module _ (xs ys : List ℕ) (k n : ℕ) (l : length ys ≡ length xs) where
  pub part-covered : 0 < length (take n (drop k xs)) → Covers (box_of xs ys) (box_of (take n (drop k xs)) (take n (drop k ys)))
  part-covered h =
      let m = min n (length xs - k) in
      let some = simp (length-take, length-drop) at h in
      let ex : take n (drop k xs) ≡ take m (drop k xs) = take-cut n (drop k xs) ∙ ap (λ (j : ℕ). take (min n j) (drop k xs)) (length-drop k xs) in
      let ey : take n (drop k ys) ≡ take m (drop k ys) = take-cut n (drop k ys) ∙ ap (λ (j : ℕ). take (min n j) (drop k ys)) (length-drop k ys ∙ ap (λ (j : ℕ). j - k) l) in
      subst (λ (r : List ℕ). Covers (box_of xs ys) (box_of r (take n (drop k ys)))) (sym ex)
      (subst (λ (r : List ℕ). Covers (box_of xs ys) (box_of (take m (drop k xs)) r)) (sym ey) (covers-part xs ys k m (omega (arith, some)) (omega (arith, some)) l))

  -- a window that meets a part meets the page
  part-in-page : (v : ℕ) (p w : Bounds) → v ≡ length xs → same_box p (box_of xs ys) ≡ true
      → in_window w (reach_of (take n (drop k xs)) (take n (drop k ys))) ≡ true → in_window w (stored v p) ≡ true
  part-in-page v p w e s i = go (length (take n (drop k xs))) refl
    where
      go : (j : ℕ) → length (take n (drop k xs)) ≡ j → in_window w (stored v p) ≡ true
      go zero z = absurd (no_both (in-none w _ (reach-none (take n (drop k xs)) (take n (drop k ys)) (omega arith))) i)
      go (suc j) z =
          let h : 0 < length (take n (drop k xs)) = omega arith in
          let some = simp (length-take, length-drop) at h in
          let q = box_of (take n (drop k xs)) (take n (drop k ys)) in
          let t : meets w q ≡ true = sym (in_some w _ q (reach-some (take n (drop k xs)) (take n (drop k ys)) h)) ∙ i in
          let u = covers-meets (box_of xs ys) q w (part-covered h) (meets-sym q w ∙ t) in
          in_some w _ p (stored_some v p (omega (arith, some))) ∙ meets-sym w p ∙ same_meets p (box_of xs ys) w s ∙ u

-- ---- a hit is in a page that is opened

-- a query meets what all windows meet that meet what it meets
touches-more : (q : Query) (r s : Reach) → ((w : Bounds) → in_window w r ≡ true → in_window w s ≡ true) → touches q r ≡ true → touches q s ≡ true
unfolding touches
touches-more Everything r s f e = refl
touches-more (Spot x y) r s f e = f _ e
touches-more (Window b) r s f e = f _ e

-- the page: its vertices xs and ys, their number v, and a stored box p that is theirs in value. A shape: the n vertices from k on
module _ (a : Ask) (xs ys : List ℕ) (k n v : ℕ) (p : Bounds) (l : length ys ≡ length xs) (e : v ≡ length xs) (s : same_box p (box_of xs ys) ≡ true) where
  pub hit-opens : hit a (take n (drop k xs)) (take n (drop k ys)) ≡ true → opens a v p ≡ true
  unfolding hit opens
  hit-opens h = touches-more a.query _ _ (λ w. part-in-page xs ys k n l v p w e s) h

  pub unopened-no-hit : opens a v p ≡ false → hit a (take n (drop k xs)) (take n (drop k ys)) ≡ false
  unopened-no-hit c = not-true _ (λ h. no_both c (hit-opens h))

-- ---- everything, and what has no vertex

pub hit-everything : (a : Ask) (xs ys : List ℕ) → a.query ≡ Everything → hit a xs ys ≡ true
unfolding hit
hit-everything a xs ys e = touches-everything a.query _ e

pub opens-everything : (a : Ask) (v : ℕ) (p : Bounds) → a.query ≡ Everything → opens a v p ≡ true
unfolding opens
opens-everything a v p e = touches-everything a.query _ e

touches-nowhere : (q : Query) → touches q nowhere ≡ true → q ≡ Everything
unfolding touches in_window
touches-nowhere Everything e = refl
touches-nowhere (Spot x y) e = absurd (no_both refl e)
touches-nowhere (Window b) e = absurd (no_both refl e)

-- with no vertex, only everything
pub hit-none : (a : Ask) (xs ys : List ℕ) → length xs ≤ 0 → hit a xs ys ≡ true → a.query ≡ Everything
unfolding hit
hit-none a xs ys z h = touches-nowhere a.query (ap (touches a.query) (sym (reach-none xs ys z)) ∙ h)

pub opens-none : (a : Ask) (v : ℕ) (p : Bounds) → v ≤ 0 → opens a v p ≡ true → a.query ≡ Everything
unfolding opens
opens-none a v p z h = touches-nowhere a.query (ap (touches a.query) (sym (stored-none v p z)) ∙ h)
