-- The key of a pattern is its rank moved up by 2 ^ 63: a natural number in the same order, so that facts on values become facts on numbers.
-- Assumes nothing.
use Rattle.std.proofs.Common.{◌≡◌, ℕ, ◌+◌, ◌-◌, ◌%◌, ◌^◌, ◌<◌, ◌≤◌, Bool, true, false, not, ◌&&◌, ◌||◌, T, eqb, ltb, leb, ℤ, pos, ◌+ℤ◌, neg_ℤ, sym, ap, ◌∙◌, arith, eqb→eq, ltb→lt, ltb-false, ltb-true, lt-ltb, eq-eqb, eqb-true, le-leb, leb-true}
use borrow.Author.Tests.{lt-leb}
use lib.IntN.{+ℤ_comm, +ℤ_assoc, +ℤ_invr, +ℤ_idr}
use lib.Ieee as Ieee
use lib.Ieee.{level}
use lib.Ieee.Fits.{and_i, and_l, and_r}
use Rattle.extent.specs.Rank.{signed, rank, key_of, key, at_most, below, same_value}
use Rattle.extent.proofs.Tests.{same_test, eq→eqb, ltb-same, le_not_lt}
use Rattle.extent.proofs.Signs.{below-signed, level-signed, le-not-above}

-- ---- IEEE's order of a sign and a size is that of the keys
pub below_at : (h : ℕ) (s t : Bool) (n m : ℕ) → n ≤ h → m ≤ h → Ieee.below s n t m ≡ ltb (key_of h s n) (key_of h t m)
below_at h false false n m p q = ltb-same n m (h + n) (h + m) (λ l. omega arith) (λ l. omega arith)
below_at h false true n m p q = same_test false (ltb (h + n) (h - m)) (λ t. absurd t) (λ t. no (ltb→lt (h + n) (h - m) t))
  where
    no : h + n < h - m → ⊥
    no l = omega arith
below_at h true false n m p q = ltb-same 0 (n + m) (h - n) (h + m) (λ l. omega arith) (λ l. omega arith)
below_at h true true n m p q = ltb-same m n (h - n) (h - m) (λ l. omega arith) (λ l. omega arith)

zero→eqb : (b : Bool) (n m : ℕ) → (n ≡ m) → (n ≡ 0) → T (eqb n m && (b || eqb n 0))
zero→eqb b n m e z = and_i (eqb n m) (b || eqb n 0) (eq→eqb n m e) (or_r b (eqb n 0) (eq→eqb n 0 z))
  where
    or_r : (a b : Bool) → T b → T (a || b)
    or_r true b t = tt
    or_r false b t = t

like→eqb : (n m : ℕ) → n ≡ m → T (eqb n m && (true || eqb n 0))
like→eqb n m e = and_i (eqb n m) true (eq→eqb n m e) tt

pub level-at : (h : ℕ) (s t : Bool) (n m : ℕ) → n ≤ h → m ≤ h → level s n t m ≡ eqb (key_of h s n) (key_of h t m)
level-at h false false n m p q =
    same_test (eqb n m && true) (eqb (h + n) (h + m)) (λ t. eq→eqb (h + n) (h + m) (ap (λ (x : ℕ). h + x) (eqb→eq n m (and_l (eqb n m) true t))))
    (λ t. like→eqb n m (un (eqb→eq (h + n) (h + m) t)))
  where
    un : h + n ≡ h + m → n ≡ m
    un e = omega arith
level-at h true true n m p q =
    same_test (eqb n m && true) (eqb (h - n) (h - m)) (λ t. eq→eqb (h - n) (h - m) (ap (λ (x : ℕ). h - x) (eqb→eq n m (and_l (eqb n m) true t))))
    (λ t. like→eqb n m (un (eqb→eq (h - n) (h - m) t)))
  where
    un : h - n ≡ h - m → n ≡ m
    un e = omega arith
level-at h false true n m p q =
    same_test (eqb n m && eqb n 0) (eqb (h + n) (h - m)) (λ t. eq→eqb (h + n) (h - m) (on (eqb→eq n m (and_l (eqb n m) (eqb n 0) t)) (eqb→eq n 0 (and_r (eqb n m) (eqb n 0) t))))
    (λ t. zero→eqb false n m (un (eqb→eq (h + n) (h - m) t)) (un0 (eqb→eq (h + n) (h - m) t)))
  where
    on : n ≡ m → n ≡ 0 → h + n ≡ h - m
    on e z = omega arith

    un : h + n ≡ h - m → n ≡ m
    un e = omega arith

    un0 : h + n ≡ h - m → n ≡ 0
    un0 e = omega arith
level-at h true false n m p q =
    same_test (eqb n m && eqb n 0) (eqb (h - n) (h + m)) (λ t. eq→eqb (h - n) (h + m) (on (eqb→eq n m (and_l (eqb n m) (eqb n 0) t)) (eqb→eq n 0 (and_r (eqb n m) (eqb n 0) t))))
    (λ t. zero→eqb false n m (un (eqb→eq (h - n) (h + m) t)) (un0 (eqb→eq (h - n) (h + m) t)))
  where
    on : n ≡ m → n ≡ 0 → h - n ≡ h + m
    on e z = omega arith

    un : h - n ≡ h + m → n ≡ m
    un e = omega arith

    un0 : h - n ≡ h + m → n ≡ 0
    un0 e = omega arith

-- ---- the key is the rank moved up
more_by : (b k : ℕ) → pos (b + k) +ℤ neg_ℤ (pos b) ≡ pos k
more_by b k = ap (λ (z : ℤ). z +ℤ neg_ℤ (pos b)) (+ℤ_comm (pos b) (pos k)) ∙ +ℤ_assoc (pos k) (pos b) (neg_ℤ (pos b)) ∙ ap (λ (z : ℤ). pos k +ℤ z) (+ℤ_invr (pos b)) ∙ +ℤ_idr (pos k)

key-at : (h : ℕ) (s : Bool) (n : ℕ) → n ≤ h → pos (key_of h s n) ≡ signed s n +ℤ pos h
key-at h false n p = ap pos (swap h n)
  where
    swap : (h n : ℕ) → h + n ≡ n + h
    swap h n = omega arith
key-at h true n p = sym (+ℤ_comm (neg_ℤ (pos n)) (pos h) ∙ ap (λ (m : ℕ). pos m +ℤ neg_ℤ (pos n)) (whole h n p) ∙ more_by n (h - n))
  where
    whole : (h n : ℕ) → n ≤ h → h ≡ n + (h - n)
    whole h n p = omega arith

small : (b : ℕ) → b % 2 ^ 63 ≤ 2 ^ 63
small b = omega arith

pub key-is : (b : ℕ) → pos (key b) ≡ rank b +ℤ pos (2 ^ 63)
unfolding key rank
key-is b = key-at (2 ^ 63) (leb (2 ^ 63) b) (b % 2 ^ 63) (small b)

-- ---- the key of a pattern, by its sign bit

pub key-plus : (b : ℕ) → b < 2 ^ 63 → key b ≡ b + 2 ^ 63
unfolding key
key-plus b h = ap (λ (s : Bool). key_of (2 ^ 63) s (b % 2 ^ 63)) (lt-leb (2 ^ 63) b h) ∙ sum
  where
    sum : 2 ^ 63 + b % 2 ^ 63 ≡ b + 2 ^ 63
    sum = omega arith

pub key-minus : (b : ℕ) → 2 ^ 63 ≤ b → b < 2 ^ 64 → key b ≡ 2 ^ 64 - b
unfolding key
key-minus b h k = ap (λ (s : Bool). key_of (2 ^ 63) s (b % 2 ^ 63)) (le-leb (2 ^ 63) b h) ∙ rest
  where
    rest : 2 ^ 63 - b % 2 ^ 63 ≡ 2 ^ 64 - b
    rest = omega arith

-- ---- values compare as keys
below_key : (a b : ℕ) → below a b ≡ ltb (key a) (key b)
unfolding below rank key
below_key a b =
    let s = leb (2 ^ 63) a in
    let t = leb (2 ^ 63) b in
    sym (below-signed s t (a % 2 ^ 63) (b % 2 ^ 63)) ∙ below_at (2 ^ 63) s t (a % 2 ^ 63) (b % 2 ^ 63) (small a) (small b)

pub same_key : (a b : ℕ) → same_value a b ≡ eqb (key a) (key b)
unfolding same_value rank key
same_key a b =
    let s = leb (2 ^ 63) a in
    let t = leb (2 ^ 63) b in
    sym (level-signed s t (a % 2 ^ 63) (b % 2 ^ 63)) ∙ level-at (2 ^ 63) s t (a % 2 ^ 63) (b % 2 ^ 63) (small a) (small b)

pub at-most-key : (a b : ℕ) → at_most a b ≡ leb (key a) (key b)
at-most-key a b = unfold at_most below in le-not-above (rank a) (rank b) ∙ ap not (below_key b a) ∙ sym (le_not_lt (key a) (key b))

pub at-most-le : (a b : ℕ) → at_most a b ≡ true → key a ≤ key b
at-most-le a b e = leb-true (key a) (key b) (sym (at-most-key a b) ∙ e)

pub le-at-most : (a b : ℕ) → key a ≤ key b → at_most a b ≡ true
le-at-most a b h = at-most-key a b ∙ le-leb (key a) (key b) h

pub below-lt : (a b : ℕ) → below a b ≡ true → key a < key b
below-lt a b e = ltb-true (key a) (key b) (sym (below_key a b) ∙ e)

pub lt-below : (a b : ℕ) → key a < key b → below a b ≡ true
lt-below a b h = below_key a b ∙ lt-ltb (key a) (key b) h

pub not-below-le : (a b : ℕ) → below a b ≡ false → key b ≤ key a
not-below-le a b e = ltb-false (key a) (key b) (sym (below_key a b) ∙ e)

pub same-eq : (a b : ℕ) → same_value a b ≡ true → key a ≡ key b
same-eq a b e = eqb-true (key a) (key b) (sym (same_key a b) ∙ e)

pub eq-same : (a b : ℕ) → key a ≡ key b → same_value a b ≡ true
eq-same a b h = same_key a b ∙ eq-eqb (key a) (key b) h
