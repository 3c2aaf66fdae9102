-- IEEE's order of a sign and a size is the order of whole numbers, n and minus n. Assumes nothing.
use Rattle.std.proofs.Common.{◌≡◌, ℕ, zero, suc, ◌+◌, Bool, true, false, not, ◌&&◌, ◌||◌, eqb, ltb, ℤ, pos, negsuc, sym, refl, ap, ◌∙◌, zero-add, arith, eqb→eq, lt→ltb}
use lib.Dec.{leb-suc-zero, leb-suc-suc, eqb-zero-suc, eqb-suc-zero, eqb-suc-suc}
use lib.Ieee.{below, level}
use lib.Signed.{lt_z, le_z}
use Rattle.answer.proofs.Both.{and-false}
use Rattle.extent.specs.Rank.{signed, eq_z}
use Rattle.extent.proofs.Tests.{same_test, eq→eqb, lt-or-eq, le_not_lt}

and-true : (b : Bool) → (b && true) ≡ b
and-true true = refl
and-true false = refl

and_same : (b : Bool) → (b && b) ≡ b
and_same true = refl
and_same false = refl

pub level-signed : (s t : Bool) (n m : ℕ) → level s n t m ≡ eq_z (signed s n) (signed t m)
level-signed false false n m = and-true (eqb n m)
level-signed false true n zero = and_same (eqb n 0)
level-signed false true zero (suc m) = ap (λ (b : Bool). b && true) (eqb-zero-suc m)
level-signed false true (suc n) (suc m) = ap (λ (b : Bool). eqb (suc n) (suc m) && b) (eqb-suc-zero n) ∙ and-false (eqb (suc n) (suc m)) false refl
level-signed true false zero m = and-true (eqb 0 m)
level-signed true false (suc n) m = ap (λ (b : Bool). eqb (suc n) m && b) (eqb-suc-zero n) ∙ and-false (eqb (suc n) m) false refl
level-signed true true zero zero = refl
level-signed true true zero (suc m) = ap (λ (b : Bool). b && true) (eqb-zero-suc m)
level-signed true true (suc n) zero = ap (λ (b : Bool). b && true) (eqb-suc-zero n)
level-signed true true (suc n) (suc m) = and-true (eqb (suc n) (suc m)) ∙ eqb-suc-suc n m

pub below-signed : (s t : Bool) (n m : ℕ) → below s n t m ≡ lt_z (signed s n) (signed t m)
below-signed false false n m = refl
below-signed false true n zero = sym (leb-suc-zero n)
below-signed false true n (suc m) = refl
below-signed true false zero m = ap (λ (x : ℕ). ltb 0 x) (zero-add m)
below-signed true false (suc n) m = same_test (ltb 0 (suc n + m)) true (λ t. tt) (λ t. lt→ltb 0 (suc n + m) (omega arith))
below-signed true true zero zero = refl
below-signed true true zero (suc m) = leb-suc-zero (suc m)
below-signed true true (suc n) zero = same_test (ltb 0 (suc n)) true (λ t. tt) (λ t. lt→ltb 0 (suc n) (omega arith))
below-signed true true (suc n) (suc m) = leb-suc-suc (suc m) n

eqb-sym : (a b : ℕ) → eqb a b ≡ eqb b a
eqb-sym a b = same_test (eqb a b) (eqb b a) (λ t. eq→eqb b a (sym (eqb→eq a b t))) (λ t. eq→eqb a b (sym (eqb→eq b a t)))

-- at most is below or equal
pub le_split : (a b : ℤ) → (lt_z a b || eq_z a b) ≡ le_z a b
le_split (pos a) (pos b) = lt-or-eq a b
le_split (pos a) (negsuc b) = refl
le_split (negsuc a) (pos b) = refl
le_split (negsuc a) (negsuc b) = ap (λ (x : Bool). ltb b a || x) (eqb-sym a b) ∙ lt-or-eq b a

-- and not above
pub le-not-above : (a b : ℤ) → le_z a b ≡ not (lt_z b a)
le-not-above (pos a) (pos b) = le_not_lt a b
le-not-above (pos a) (negsuc b) = refl
le-not-above (negsuc a) (pos b) = refl
le-not-above (negsuc a) (negsuc b) = le_not_lt b a
