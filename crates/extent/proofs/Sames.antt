-- Two boxes that are the same in value: each covers the other, so that the same boxes meet them. Assumes nothing.
use Rattle.std.proofs.Common.{◌≡◌, ℕ, true, refl, ◌∙◌}
use Rattle.extent.specs.Rank.{same_value}
use Rattle.extent.specs.declared.bounds.Bounds.{Bounds}
use Rattle.extent.specs.Boxes.{same_box, meets}
use Rattle.extent.proofs.Tests.{same_test, T_true, true-T, all-four, four-all}
use Rattle.extent.proofs.Ranks.{same_rank, rank_same, same-at-most, same-sym}
use Rattle.extent.proofs.Boxed.{Covers}
use Rattle.extent.proofs.Meeting.{meets-sym, covers-meets}

-- one by one
pub record Sames (p q : Bounds) : Type 0 where
  pub least_x : same_value p.least_x q.least_x ≡ true
  pub least_y : same_value p.least_y q.least_y ≡ true
  pub greatest_x : same_value p.greatest_x q.greatest_x ≡ true
  pub greatest_y : same_value p.greatest_y q.greatest_y ≡ true

pub same-four : (p q : Bounds) → same_box p q ≡ true → Sames p q
unfolding same_box
same-four p q e =
    let w = all-four (same_value p.least_x q.least_x) (same_value p.least_y q.least_y) (same_value p.greatest_x q.greatest_x) (same_value p.greatest_y q.greatest_y) e in
    record { least_x = w.0; least_y = w.1; greatest_x = w.2; greatest_y = w.3 }

pub four_same : (p q : Bounds) → Sames p q → same_box p q ≡ true
unfolding same_box
four_same p q s = four-all _ _ _ _ s.least_x s.least_y s.greatest_x s.greatest_y

-- a box is the same as itself
pub same-box-refl : (p : Bounds) → same_box p p ≡ true
same-box-refl p = four_same p p (record { least_x = itself p.least_x; least_y = itself p.least_y; greatest_x = itself p.greatest_x; greatest_y = itself p.greatest_y })
  where
    itself : (a : ℕ) → same_value a a ≡ true
    itself a = rank_same a a refl

pub same-box-sym : (p q : Bounds) → same_box p q ≡ true → same_box q p ≡ true
same-box-sym p q e =
    let s = same-four p q e in
    four_same q p (record {
      least_x = same-sym p.least_x q.least_x s.least_x;
      least_y = same-sym p.least_y q.least_y s.least_y;
      greatest_x = same-sym p.greatest_x q.greatest_x s.greatest_x;
      greatest_y = same-sym p.greatest_y q.greatest_y s.greatest_y;
    })

pub same-covers : (p q : Bounds) → same_box p q ≡ true → Covers p q
same-covers p q e =
    let s = same-four p q e in
    let t = same-four q p (same-box-sym p q e) in
    record {
      from_x = same-at-most p.least_x q.least_x s.least_x;
      from_y = same-at-most p.least_y q.least_y s.least_y;
      to_x = same-at-most q.greatest_x p.greatest_x t.greatest_x;
      to_y = same-at-most q.greatest_y p.greatest_y t.greatest_y;
    }

-- whatever the box r
pub same_meets : (p q r : Bounds) → same_box p q ≡ true → meets p r ≡ meets q r
same_meets p q r e =
    same_test (meets p r) (meets q r)
    (λ t. T_true (covers-meets q p r (same-covers q p (same-box-sym p q e)) (true-T (meets p r) t)))
    (λ t. T_true (covers-meets p q r (same-covers p q e) (true-T (meets q r) t)))

pub same_met : (r p q : Bounds) → same_box p q ≡ true → meets r p ≡ meets r q
same_met r p q e = meets-sym r p ∙ same_meets p q r e ∙ meets-sym q r

-- and they are the same as the same boxes
same-on : (a b c : ℕ) → same_value a b ≡ true → same_value b c ≡ true → same_value a c ≡ true
same-on a b c e g = rank_same a c (same_rank a b e ∙ same_rank b c g)

box-on : (r p q : Bounds) → same_box r p ≡ true → same_box p q ≡ true → same_box r q ≡ true
box-on r p q e g =
    let s = same-four r p e in
    let t = same-four p q g in
    four_same r q (record {
      least_x = same-on r.least_x p.least_x q.least_x s.least_x t.least_x;
      least_y = same-on r.least_y p.least_y q.least_y s.least_y t.least_y;
      greatest_x = same-on r.greatest_x p.greatest_x q.greatest_x s.greatest_x t.greatest_x;
      greatest_y = same-on r.greatest_y p.greatest_y q.greatest_y s.greatest_y t.greatest_y;
    })

pub same-same : (r p q : Bounds) → same_box p q ≡ true → same_box r p ≡ same_box r q
same-same r p q e =
    same_test (same_box r p) (same_box r q)
    (λ t. T_true (box-on r p q (true-T (same_box r p) t) e))
    (λ t. T_true (box-on r q p (true-T (same_box r q) t) (same-box-sym p q e)))
