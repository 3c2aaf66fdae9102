-- Tests of numbers and of truth values that the other laws use. Assumes nothing.
use Rattle.std.proofs.Common.{◌≡◌, ℕ, ◌<◌, ◌≤◌, Bool, true, false, not, ◌&&◌, ◌||◌, T, eqb, ltb, leb, ◌⊎◌, sym, refl, subst, inl, inr, le_of_eq, lt_of_lt_of_le, le_of_lt, lt_irrefl, eq-or-lt_of_le, arith, le→leb, eqb→eq, ltb→lt, lt→ltb, leb→le, nltb→le}
use lib.Dec.{eqb_refl, not_T}
use Rattle.answer.proofs.Both.{both_l, both_r}

-- two tests that pass together are one
pub same_test : (a b : Bool) → (T a → T b) → (T b → T a) → a ≡ b
same_test true true p q = refl
same_test true false p q = absurd (p tt)
same_test false true p q = absurd (q tt)
same_test false false p q = refl

-- a test that passed
pub T_true : {b : Bool} → b ≡ true → T b
T_true e = subst T (sym e) tt

pub true-T : (b : Bool) → T b → b ≡ true
true-T true t = refl
true-T false t = absurd t

-- all of four
pub all-four : (a b c d : Bool) → (a && b && c && d) ≡ true → (a ≡ true) × (b ≡ true) × (c ≡ true) × (d ≡ true)
all-four a b c d e =
    let abc = both_l (a && b && c) d e in
    let ab = both_l (a && b) c abc in
    (both_l a b ab, both_r a b ab, both_r (a && b) c abc, both_r (a && b && c) d e)

pub four-all : (a b c d : Bool) → a ≡ true → b ≡ true → c ≡ true → d ≡ true → (a && b && c && d) ≡ true
four-all a b c d p q s t = simp (p, q, s, t)

-- four tests, each made only where the one before it passed
pub passed-three : (a b c d r : Bool) → a ≡ true → b ≡ true → c ≡ true → r ≡ d → r ≡ (a && b && c && d)
passed-three a b c d r p q s t = simp (p, q, s) t

pub failed-third : (a b c d : Bool) → a ≡ true → b ≡ true → c ≡ false → false ≡ (a && b && c && d)
failed-third a b c d p q s = simp (p, q, s)

pub failed-second : (a b c d : Bool) → a ≡ true → b ≡ false → false ≡ (a && b && c && d)
failed-second a b c d p q = simp (p, q)

pub failed-first : (a b c d : Bool) → a ≡ false → false ≡ (a && b && c && d)
failed-first a b c d p = simp p

-- ---- numbers
pub tri : (a b : ℕ) → (a < b → ⊥) → (b < a → ⊥) → a ≡ b
tri a b p q = omega arith

pub not-lt : (a b : ℕ) → a ≡ b → a < b → ⊥
not-lt a b e h = omega arith

pub not-gt : (a b : ℕ) → a ≡ b → b < a → ⊥
not-gt a b e h = omega arith

pub eq→eqb : (a b : ℕ) → a ≡ b → T (eqb a b)
eq→eqb a b e = subst (λ (x : ℕ). T (eqb a x)) e (eqb_refl a)

pub ltb-same : (A B a b : ℕ) → (A < B → a < b) → (a < b → A < B) → ltb A B ≡ ltb a b
ltb-same A B a b p q = same_test (ltb A B) (ltb a b) (λ t. lt→ltb a b (p (ltb→lt A B t))) (λ t. lt→ltb A B (q (ltb→lt a b t)))

pub lt→neqb : (a b : ℕ) → a < b → T (not (eqb a b))
lt→neqb a b h = not_T (eqb a b) (λ t. not-lt a b (eqb→eq a b t) h)

pub lt-or-eq : (a b : ℕ) → (ltb a b || eqb a b) ≡ leb a b
lt-or-eq a b = same_test (ltb a b || eqb a b) (leb a b) (λ t. le→leb a b (to (or_split (ltb a b) (eqb a b) t))) (λ t. from (eq-or-lt_of_le (leb→le a b t)))
  where
    or_split : (a b : Bool) → T (a || b) → T a ⊎ T b
    or_split true b t = inl tt
    or_split false b t = inr t

    or_r : (a b : Bool) → T b → T (a || b)
    or_r true b t = tt
    or_r false b t = t

    or_l : (a b : Bool) → T a → T (a || b)
    or_l true b t = tt
    or_l false b t = absurd t

    to : T (ltb a b) ⊎ T (eqb a b) → a ≤ b
    to (inl t) = le_of_lt (ltb→lt a b t)
    to (inr t) = le_of_eq (eqb→eq a b t)

    from : (a ≡ b) ⊎ (a < b) → T (ltb a b || eqb a b)
    from (inl e) = or_r (ltb a b) (eqb a b) (eq→eqb a b e)
    from (inr l) = or_l (ltb a b) (eqb a b) (lt→ltb a b l)

pub le_not_lt : (a b : ℕ) → leb a b ≡ not (ltb b a)
le_not_lt a b = same_test (leb a b) (not (ltb b a)) (λ t. not_T (ltb b a) (λ u. lt_irrefl b (lt_of_lt_of_le (ltb→lt b a u) (leb→le a b t)))) (λ t. le→leb a b (nltb→le b a t))
