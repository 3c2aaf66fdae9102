-- Two floats whose values are fractions a / L and b / L, each with its sign, compare as IEEE's `<` and `==` do by the signs and by a and b.
-- Assumes nothing.
use Rattle.std.proofs.Common.{◌≡◌, ℕ, zero, suc, ◌+◌, ◌*◌, ◌<◌, Bool, true, false, ◌&&◌, ◌||◌, eqb, ℤ, sym, refl, ap, ◌∙◌, le_of_eq, lt_of_lt_of_le, lt_of_le_of_lt, zero-lt-suc, mul_assoc, mul_comm, lt_of_mul-lt-mul_right, mul-lt-mul_of_pos_right, mul-pos, zero-mul, mul_right_comm, arith, eqb→eq}
use mathlib.Core.Bool.{beq}
use lib.Ieee.{Float, nan, inf, fin, up, down, below, level, lt, eq}
use lib.Ieee.Fits.{down_pos}
use lib.Ieee.Exact.{HasValue}
use Rattle.extent.proofs.Tests.{same_test, tri, not-lt, not-gt, eq→eqb, ltb-same}

-- A, B and a, b stand in the same order, and are 0 together
pub record Same (A B a b : ℕ) : Type 0 where
  pub lt→ : A < B → a < b
  pub lt← : a < b → A < B
  pub gt→ : B < A → b < a
  pub gt← : b < a → B < A
  pub za→ : 0 < A → 0 < a
  pub za← : 0 < a → 0 < A
  pub zb→ : 0 < B → 0 < b
  pub zb← : 0 < b → 0 < B

-- the tests of the one pair are those of the other
eqb_same : (A B a b : ℕ) → Same A B a b → eqb A B ≡ eqb a b
eqb_same A B a b r =
    same_test (eqb A B) (eqb a b)
    (λ t. eq→eqb a b (tri a b (λ h. not-lt A B (eqb→eq A B t) (r.lt← h)) (λ h. not-gt A B (eqb→eq A B t) (r.gt← h))))
    (λ t. eq→eqb A B (tri A B (λ h. not-lt a b (eqb→eq a b t) (r.lt→ h)) (λ h. not-gt a b (eqb→eq a b t) (r.gt→ h))))

-- a sum is above 0 where one of its parts is
some : (A B a b : ℕ) → (0 < A → 0 < a) → (0 < B → 0 < b) → 0 < A + B → 0 < a + b
some A B a b p q h = go A p h
  where
    left : (x y : ℕ) → 0 < x → 0 < x + y
    left x y h = omega arith

    right : (x y : ℕ) → 0 < y → 0 < x + y
    right x y h = omega arith

    go : (X : ℕ) → (0 < X → 0 < a) → 0 < X + B → 0 < a + b
    go zero p h = right a b (q (none B h))
      where
        none : (y : ℕ) → 0 < 0 + y → 0 < y
        none y h = omega arith
    go (suc X) p h = left a b (p (zero-lt-suc X))

zero_same : (A a : ℕ) → (0 < A → 0 < a) → (0 < a → 0 < A) → eqb A 0 ≡ eqb a 0
zero_same A a p q =
    same_test (eqb A 0) (eqb a 0)
    (λ t. eq→eqb a 0 (none a (λ h. not-gt A 0 (eqb→eq A 0 t) (q h))))
    (λ t. eq→eqb A 0 (none A (λ h. not-gt a 0 (eqb→eq a 0 t) (p h))))
  where
    none : (x : ℕ) → (0 < x → ⊥) → x ≡ 0
    none x h = omega arith

pub below-same : (s t : Bool) (A B a b : ℕ) → Same A B a b → below s A t B ≡ below s a t b
below-same false false A B a b r = ltb-same A B a b r.lt→ r.lt←
below-same false true A B a b r = refl
below-same true false A B a b r = ltb-same 0 (A + B) 0 (a + b) (some A B a b r.za→ r.zb→) (some a b A B r.za← r.zb←)
below-same true true A B a b r = ltb-same B A b a r.gt→ r.gt←

pub level-same : (s t : Bool) (A B a b : ℕ) → Same A B a b → level s A t B ≡ level s a t b
level-same s t A B a b r = ap (λ (x : Bool). x && (beq s t || eqb A 0)) (eqb_same A B a b r) ∙ ap (λ (x : Bool). eqb a b && (beq s t || x)) (zero_same A a r.za→ r.za←)

-- ---- two values with one denominator
grow : (A B a b L D : ℕ) → 0 < L → 0 < D → A * L ≡ a * D → B * L ≡ b * D → A < B → a < b
grow A B a b L D PL PD p q h = lt_of_mul-lt-mul_right D (lt_of_lt_of_le (lt_of_le_of_lt (le_of_eq (sym p)) (mul-lt-mul_of_pos_right h PL)) (le_of_eq q))

scaled : (A B a b L D : ℕ) → 0 < L → 0 < D → A * L ≡ a * D → B * L ≡ b * D → Same A B a b
scaled A B a b L D PL PD p q = record {
  lt→ = grow A B a b L D PL PD p q;
  lt← = grow a b A B D L PD PL (sym p) (sym q);
  gt→ = grow B A b a L D PL PD q p;
  gt← = grow b a B A D L PD PL (sym q) (sym p);
  za→ = grow 0 A 0 a L D PL PD (zero-mul L ∙ sym (zero-mul D)) p;
  za← = grow 0 a 0 A D L PD PL (zero-mul D ∙ sym (zero-mul L)) (sym p);
  zb→ = grow 0 B 0 b L D PL PD (zero-mul L ∙ sym (zero-mul D)) q;
  zb← = grow 0 b 0 B D L PD PL (zero-mul D ∙ sym (zero-mul L)) (sym q);
}

-- two floats m × 2 ^ e and n × 2 ^ d that are a / L and b / L
cross : (m : ℕ) (e d : ℤ) (a L : ℕ) → m * up e * L ≡ a * down e → m * up e * down d * L ≡ a * (down e * down d)
cross m e d a L h = mul_right_comm (m * up e) (down d) L ∙ ap (λ (x : ℕ). x * down d) h ∙ mul_assoc a (down e) (down d)

pair : (m n : ℕ) (e d : ℤ) (a b L : ℕ) → 0 < L → m * up e * L ≡ a * down e → n * up d * L ≡ b * down d → Same (m * up e * down d) (n * up d * down e) a b
pair m n e d a b L PL p q =
    scaled (m * up e * down d) (n * up d * down e) a b L (down e * down d) PL (mul-pos (down_pos e) (down_pos d))
    (cross m e d a L p) (cross n d e b L q ∙ ap (λ (x : ℕ). b * x) (mul_comm (down d) (down e)))

-- ---- the laws

pub lt-values : (x y : Float) (s t : Bool) (a b L : ℕ) → 0 < L → HasValue x s a L → HasValue y t b L → lt x y ≡ below s a t b
unfolding lt
lt-values nan y s t a b L PL p q = absurd p
lt-values (inf u) y s t a b L PL p q = absurd p
lt-values (fin u m e) nan s t a b L PL p q = absurd q
lt-values (fin u m e) (inf v) s t a b L PL p q = absurd q
lt-values (fin u m e) (fin v n d) s t a b L PL p q =
    below-same u v (m * up e * down d) (n * up d * down e) a b (pair m n e d a b L PL p.1 q.1)
    ∙ ap (λ (z : Bool). below z a v b) p.0 ∙ ap (λ (z : Bool). below s a z b) q.0

pub eq-values : (x y : Float) (s t : Bool) (a b L : ℕ) → 0 < L → HasValue x s a L → HasValue y t b L → eq x y ≡ level s a t b
unfolding eq
eq-values nan y s t a b L PL p q = absurd p
eq-values (inf u) y s t a b L PL p q = absurd p
eq-values (fin u m e) nan s t a b L PL p q = absurd q
eq-values (fin u m e) (inf v) s t a b L PL p q = absurd q
eq-values (fin u m e) (fin v n d) s t a b L PL p q =
    level-same u v (m * up e * down d) (n * up d * down e) a b (pair m n e d a b L PL p.1 q.1)
    ∙ ap (λ (z : Bool). level z a v b) p.0 ∙ ap (λ (z : Bool). level s a z b) q.0
