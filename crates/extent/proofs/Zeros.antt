-- Only the two zeros are equal in value with unlike patterns; so of the least and the greatest of a list the one that is met first is the first zero, where it
-- is zero, and else itself. Assumes nothing.
use Rattle.std.proofs.Common.{◌≡◌, ℕ, zero, suc, ◌%◌, ◌^◌, ◌<◌, Bool, true, false, cond, ltb, leb, List, [], ◌∷◌, length, get_or, sym, refl, ap, ◌∙◌, suc-le-suc, zero-le, le_of_suc-le-suc, arith, ltb-false, ltb-true, eq-eqb, eqb-true}
use Rattle.answer.proofs.Both.{not-true}
use Rattle.extent.specs.Rank.{key_of, key, same_value}
use Rattle.extent.specs.FirstMet.{AtMost, Under, AtLeast, Above, Met}
use Rattle.extent.specs.Span.{is_zero, first_zero, first_as}
use Rattle.extent.proofs.Keys.{key-plus, key-minus, below-lt, same-eq}

-- ---- a zero is what has the rank 0

pub zero-key : (b : ℕ) → is_zero b ≡ true → key b ≡ 2 ^ 63
unfolding key is_zero
zero-key b e = go (leb (2 ^ 63) b) (b % 2 ^ 63) (eqb-true (b % 2 ^ 63) 0 e)
  where
    go : (s : Bool) (n : ℕ) → n ≡ 0 → key_of (2 ^ 63) s n ≡ 2 ^ 63
    go false n h = omega arith
    go true n h = omega arith

pub key-zero : (b : ℕ) → key b ≡ 2 ^ 63 → is_zero b ≡ true
unfolding key is_zero
key-zero b e = eq-eqb (b % 2 ^ 63) 0 (go (leb (2 ^ 63) b) (b % 2 ^ 63) low e)
  where
    low : b % 2 ^ 63 < 2 ^ 63
    low = omega arith

    go : (s : Bool) (n : ℕ) → n < 2 ^ 63 → key_of (2 ^ 63) s n ≡ 2 ^ 63 → n ≡ 0
    go false n l h = omega arith
    go true n l h = omega arith

-- ---- of two patterns that are equal in value, neither of them zero

abbrev Word : ℕ → Type 0
Word b = b < 2 ^ 64

pub same-pattern : (a b : ℕ) → Word a → Word b → same_value a b ≡ true → is_zero a ≡ false → a ≡ b
same-pattern a b w v e z = go (ltb a (2 ^ 63)) (ltb b (2 ^ 63)) refl refl
  where
    same : key a ≡ key b
    same = same-eq a b e

    not-zero : key a ≡ 2 ^ 63 → ⊥
    not-zero k = let y : ◌≡◌ {A = Bool} true false = sym (key-zero a k) ∙ z in absurd (let n : ◌≡◌ {A = ℕ} 0 1 = cc in omega arith)

    go : (s t : Bool) → ltb a (2 ^ 63) ≡ s → ltb b (2 ^ 63) ≡ t → a ≡ b
    go true true p q =
        let x = key-plus a (ltb-true a (2 ^ 63) p) in
        let y = key-plus b (ltb-true b (2 ^ 63) q) in
        omega (arith, x, y, same)
    go false false p q =
        let x = key-minus a (ltb-false a (2 ^ 63) p) w in
        let y = key-minus b (ltb-false b (2 ^ 63) q) v in
        omega (arith, x, y, same)
    go true false p q =
        let h = ltb-false b (2 ^ 63) q in
        let x = key-plus a (ltb-true a (2 ^ 63) p) in
        let y = key-minus b h v in
        absurd (not-zero (omega (arith, x, y, same, h)))
    go false true p q =
        let h = ltb-false a (2 ^ 63) p in
        let x = key-minus a h w in
        let y = key-plus b (ltb-true b (2 ^ 63) q) in
        absurd (not-zero (omega (arith, x, y, same, h)))

-- ---- the first zero

-- by the first of what is left: it is a zero, or the rest has the first
pub first-here : (l : List ℕ) (v : ℕ) (vs : List ℕ) → l ≡ v ∷ vs → is_zero v ≡ true → v ≡ first_zero l
unfolding first_zero
first-here l v vs e z = sym (ap first_zero e ∙ ap (λ (t : Bool). cond t v (first_zero vs)) z)

pub first-later : (l : List ℕ) (v : ℕ) (vs : List ℕ) → l ≡ v ∷ vs → is_zero v ≡ false → first_zero vs ≡ first_zero l
unfolding first_zero
first-later l v vs e z = sym (ap first_zero e ∙ ap (λ (t : Bool). cond t v (first_zero vs)) z)

-- none is left
pub first-none : (l : List ℕ) → l ≡ [] → 0 ≡ first_zero l
unfolding first_zero
first-none l e = sym (ap first_zero e)

-- at a place before which there is none
first-at : (v : ℕ) → is_zero v ≡ true → (l : List ℕ) (k : ℕ) → k < length l → v ≡ get_or l k 0 → ((i : ℕ) → i < k → is_zero (get_or l i 0) ≡ false) → first_zero l ≡ v
unfolding first_zero
first-at v z [] k h e f = absurd (omega arith)
first-at v z (x ∷ l) zero h e f = ap (λ (t : Bool). cond t x (first_zero l)) (ap is_zero (sym e) ∙ z) ∙ sym e
first-at v z (x ∷ l) (suc k) h e f =
    ap (λ (t : Bool). cond t x (first_zero l)) (f 0 (suc-le-suc zero-le)) ∙ first-at v z l k (le_of_suc-le-suc h) e (λ i j. f (suc i) (suc-le-suc j))

-- what is strictly on one side of a zero is none
not-zero-off : (u v : ℕ) → is_zero v ≡ true → (key u ≡ key v → ⊥) → is_zero u ≡ false
not-zero-off u v z h = not-true (is_zero u) (λ e. h (zero-key u e ∙ sym (zero-key v z)))

-- a zero that is met first in a list is its first
module _ (l : List ℕ) (v : ℕ) (z : is_zero v ≡ true) where
  pub least_zero : Met AtMost Under l v → first_zero l ≡ v
  least_zero m =
      first-at v z l m.place m.inside m.found
      (λ i h. not-zero-off (get_or l i 0) v z (λ e. let k = below-lt v (get_or l i 0) (m.first i h) in omega (arith, e, k)))

  pub greatest-zero : Met AtLeast Above l v → first_zero l ≡ v
  greatest-zero m =
      first-at v z l m.place m.inside m.found
      (λ i h. not-zero-off (get_or l i 0) v z (λ e. let k = below-lt (get_or l i 0) v (m.first i h) in omega (arith, e, k)))

-- ---- the first that is equal in value to b

pub first-as : (l : List ℕ) (b m : ℕ) → Word b → Word m → same_value b m ≡ true → (is_zero m ≡ true → first_zero l ≡ m) → first_as l b ≡ m
unfolding first_as
first-as l b m w v e f = go (is_zero b) refl
  where
    go : (t : Bool) → is_zero b ≡ t → cond t (first_zero l) b ≡ m
    go true z = f (key-zero m (sym (same-eq b m e) ∙ zero-key b z))
    go false z = same-pattern b m w v e z
