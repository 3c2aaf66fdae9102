-- Patterns on grid: they are finite, their whole number is within 2 ^ 24; a walk over a list of them. Assumes nothing.
use mathlib.Core.Path.{◌≡◌, refl, sym, ap, ◌∙◌}
use mathlib.Core.Bool.{Bool, true, false, ◌&&◌, and-true, and_assoc}
use mathlib.Core.List.{List}
use Prim.Native.Nat.{ℕ, ◌+◌, ◌^◌, ◌≤◌, ◌<◌}
use native.Mathlib.Nat.{add_comm}
use native.Mathlib.Omega.{arith}
use borrow.Author.Tests.{eqb-true, eq-eqb}
use lib.Bits.{bit_and, bit_or, or_add_and, and_le_l, and_le_r}
use lib.Dec.{T, eqb}
use lib.IntN.{pos, nat_abs}
use lib.ListN.{length, get_or, drop, drop_of_length-le}
use lib.Ieee.{binary64, of_bits, of_fields, in_signed, to_signed}
use Rattle.answer.proofs.Both.{not-true, no_both, both, both_l, both_r}
use Rattle.answer.proofs.Alls.{stands, all_none, all_cons}
use Rattle.extent.specs.Rank.{finite}
use Rattle.extent.proofs.Tests.{same_test, T_true, true-T}
use Rattle.extent.proofs.Patterns.{bits-not-finite, bits_back}
use Rattle.grid.specs.Grid.{on_grid, whole_of, all_on_grid}
use Rattle.grid.proofs.Casts.{off-not-finite, whole-within, minus_zero, minus-zero-bits, cast-allowed, cast-whole}

-- ---- one pattern

-- an infinity or a NaN is off grid
pub off-grid : (b : ℕ) → finite b ≡ false → on_grid b ≡ false
unfolding on_grid
off-grid b e = off-not-finite (of_bits binary64 b) (bits-not-finite b e)

pub on-grid-finite : (b : ℕ) → on_grid b ≡ true → finite b ≡ true
on-grid-finite b g = go (finite b) refl
  where
    go : (t : Bool) → finite b ≡ t → t ≡ true
    go true e = refl
    go false e = absurd (no_both (off-grid b e) g)

-- the whole number is within 2 ^ 24
pub whole-small : (b : ℕ) → on_grid b ≡ true → nat_abs (whole_of b) ≤ 2 ^ 24
unfolding on_grid whole_of
whole-small b g = whole-within (of_bits binary64 b) g

-- but at -0, whose pattern is 2 ^ 63, the cast to 64 bits is allowed, and is the whole number
pub cast-allowed-of : (b : ℕ) → b < 2 ^ 64 → on_grid b ≡ true → (b ≡ 2 ^ 63 → ⊥) → T (in_signed binary64 63 (of_bits binary64 b))
unfolding on_grid
cast-allowed-of b l g n =
    cast-allowed (of_bits binary64 b) g
    (not-true (minus_zero (of_bits binary64 b)) (λ z. n (sym (bits_back b l (on-grid-finite b g)) ∙ minus-zero-bits (of_bits binary64 b) z)))

pub cast-whole-of : (b : ℕ) → T (in_signed binary64 63 (of_bits binary64 b)) → to_signed 63 (of_bits binary64 b) ≡ whole_of b
unfolding whole_of
cast-whole-of b t = cast-whole (of_bits binary64 b) t

pub whole-of-minus-zero : (b : ℕ) → b ≡ 2 ^ 63 → pos 0 ≡ whole_of b
unfolding whole_of of_bits of_fields
whole-of-minus-zero b e = sym (ap whole_of e)

-- ---- a walk: of those from i on, the one at i and those after it

walk-next : (bs : List ℕ) (i : ℕ) → i < length bs → all_on_grid (drop i bs) ≡ (on_grid (get_or bs i 0) && all_on_grid (drop (i + 1) bs))
walk-next bs i h = ap all_on_grid (stands bs i 0 h) ∙ all_cons on_grid (get_or bs i 0) (drop (i + 1) bs)

-- of two numbers no bit is set, if none is of either
none-set : (a b : ℕ) → eqb (bit_or a b) 0 ≡ (eqb a 0 && eqb b 0)
none-set a b =
    same_test (eqb (bit_or a b) 0) (eqb a 0 && eqb b 0)
    (λ t. let z = eqb-true _ _ (true-T _ t) in T_true (both (eq-eqb a 0 (parts-l _ _ a b sum (and_le_r a b) z)) (eq-eqb b 0 (parts-l _ _ b a sum' (and_le_l a b) z))))
    (λ t. let z = true-T _ t in T_true (eq-eqb _ 0 (whole _ _ a b sum (eqb-true a 0 (both_l (eqb a 0) (eqb b 0) z)) (eqb-true b 0 (both_r (eqb a 0) (eqb b 0) z)))))
  where
    sum : bit_or a b + bit_and a b ≡ a + b
    sum = or_add_and a b

    sum' : bit_or a b + bit_and a b ≡ b + a
    sum' = sum ∙ add_comm a b

    parts-l : (o n a b : ℕ) → o + n ≡ a + b → n ≤ b → o ≡ 0 → a ≡ 0
    parts-l o n a b e h z = omega arith

    whole : (o n a b : ℕ) → o + n ≡ a + b → a ≡ 0 → b ≡ 0 → o ≡ 0
    whole o n a b e p q = omega arith

-- `off` is 0 if those before i are on grid, and r if the one at i is
pub walk_more : (bs : List ℕ) (i off r : ℕ) → i < length bs → eqb r 0 ≡ on_grid (get_or bs i 0)
    → (eqb (bit_or off r) 0 && all_on_grid (drop (i + 1) bs)) ≡ (eqb off 0 && all_on_grid (drop i bs))
walk_more bs i off r h e =
    ap (λ (t : Bool). t && all_on_grid (drop (i + 1) bs)) (none-set off r)
    ∙ and_assoc (eqb off 0) (eqb r 0) (all_on_grid (drop (i + 1) bs))
    ∙ ap (λ (t : Bool). eqb off 0 && (t && all_on_grid (drop (i + 1) bs))) e
    ∙ ap (λ (t : Bool). eqb off 0 && t) (sym (walk-next bs i h))

pub walk-done : (bs : List ℕ) (i off : ℕ) → length bs ≤ i → eqb off 0 ≡ (eqb off 0 && all_on_grid (drop i bs))
walk-done bs i off h = sym (ap (λ (t : Bool). eqb off 0 && t) (ap all_on_grid (drop_of_length-le bs h) ∙ all_none on_grid) ∙ and-true (eqb off 0))
