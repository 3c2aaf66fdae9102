-- Laws of S(n): the entries' bits are S(n), it is at most P(N - 1) at the width taken, and the walk that counts full steps. Assumes nothing.
use mathlib.Core.Path.{◌≡◌, refl, sym, ap, ap₂, ◌∙◌}
use mathlib.Core.List.{List, [], ◌∷◌}
use mathlib.Core.Bool.{Bool, true, false, cond}
use Prim.Native.Nat.{ℕ, suc, ◌+◌, ◌-◌, ◌*◌, ◌≤◌, ◌<◌, zero-le}
use native.Mathlib.Nat.{mul-suc, mul-zero, mul-one, mul-add, zero-mul, mul-le-mul, mul-le-mul_left, mul-le-mul_right, add-mul}
use native.Mathlib.Numerals.{add-one}
use native.Mathlib.Omega.{arith}
use lib.Dec.{leb}
use lib.ListN.{length, get_or, drop, drop_of_length-le}
use lib.Seq.{drop-cons}
use borrow.Author.Tests.{leb-true, leb-false}
use Rattle.entry.specs.Step.{z_of, marker}
use Rattle.entry.specs.Fields.{bits}
use Rattle.entry.specs.Entry.{entries, entry_of}
use Rattle.entry.proofs.Fields.{bits-append}
use Rattle.entry.proofs.Entries.{short-bits, full-bits, entries-cons}
use Rattle.width.specs.Width.{zs_after, zs_of, fulls, column_size, width_of, Least}
use Rattle.width.proofs.Least.{least-law}

pub fulls-le : (n : ℕ) (zs : List ℕ) → fulls n zs ≤ length zs
unfolding fulls
fulls-le n [] = omega arith
fulls-le n (z ∷ zs) = go (leb (marker n) z) (fulls-le n zs)
  where
    go : (t : Bool) → fulls n zs ≤ length zs → cond t 1 0 + fulls n zs ≤ suc (length zs)
    go true h = omega arith
    go false h = omega arith

length-zs_after : (P a : ℕ) (vs : List ℕ) → length (zs_after P a vs) ≡ length vs
unfolding zs_after
length-zs_after P a [] = refl
length-zs_after P a (v ∷ vs) = ap suc (length-zs_after P v vs)

pub length-zs : (P : ℕ) (vs : List ℕ) → length (zs_of P vs) ≡ length vs - 1
unfolding zs_of
length-zs P [] = refl
length-zs P (v ∷ vs) = length-zs_after P v vs ∙ omega arith

-- n bits for each of at most 2,047 steps
pub steps-le : (n k : ℕ) → n ≤ 64 → k ≤ 2048 → n * (k - 1) ≤ 64 * 2047
steps-le n k h l = let m : k - 1 ≤ 2047 = omega arith in mul-le-mul h m

pub size_none : (P n : ℕ) (vs : List ℕ) → length vs ≡ 0 → 0 ≡ column_size P (zs_of P vs) n
unfolding zs_of column_size fulls
size_none P n [] h = sym (ap₂ (λ (x y : ℕ). x + y) (mul-zero n) (mul-zero P))
size_none P n (v ∷ vs) h = absurd (omega arith)

-- ---- the entries' bits

pub bits-column_size : (P n a : ℕ) (vs : List ℕ) → bits (entries P n a vs) ≡ column_size P (zs_after P a vs) n
unfolding entries bits zs_after column_size fulls
bits-column_size P n a [] = sym (ap₂ (λ (x y : ℕ). x + y) (mul-zero n) (mul-zero P))
bits-column_size P n a (v ∷ vs) = go (leb (marker n) (z_of P a v)) refl (bits-column_size P n v vs)
  where
    go : (t : Bool) → leb (marker n) (z_of P a v) ≡ t → bits (entries P n v vs) ≡ n * length (zs_after P v vs) + P * fulls n (zs_after P v vs)
        → bits (entries P n a (v ∷ vs)) ≡ n * suc (length (zs_after P v vs)) + P * (cond (leb (marker n) (z_of P a v)) 1 0 + fulls n (zs_after P v vs))
    go true e ih =
        rw e (ap bits (entries-cons P n a v vs) ∙ bits-append (entry_of P n a v) (entries P n v vs)
        ∙ ap₂ (λ (x y : ℕ). x + y) (full-bits P n a v (z_of P a v) refl (leb-true _ _ e)) ih
        ∙ omega (arith, mul-suc n (length (zs_after P v vs)), mul-add P 1 (fulls n (zs_after P v vs)), mul-one P))
    go false e ih =
        rw e (ap bits (entries-cons P n a v vs) ∙ bits-append (entry_of P n a v) (entries P n v vs)
        ∙ ap₂ (λ (x y : ℕ). x + y) (short-bits P n a v (z_of P a v) refl (leb-false _ _ e)) ih
        ∙ omega (arith, mul-suc n (length (zs_after P v vs)), mul-add P 0 (fulls n (zs_after P v vs)), mul-zero P))

-- at any width at most P + P for each step
pub bits-le : (P n a : ℕ) (vs : List ℕ) → n ≤ P → bits (entries P n a vs) ≤ (P + P) * length vs
unfolding column_size
bits-le P n a vs h =
    let zs : List ℕ = zs_after P a vs in
    omega (
      arith,
      bits-column_size P n a vs,
      length-zs_after P a vs,
      mul-le-mul_right (length (zs_after P a vs)) h,
      mul-le-mul_left P (fulls-le n (zs_after P a vs)),
      add-mul P P (length vs),
      ap (λ (k : ℕ). P * k) (length-zs_after P a vs),
    )

-- ---- at the width taken

pub width-least : (P : ℕ) (vs : List ℕ) → Least (column_size P (zs_of P vs)) P (width_of P vs)
unfolding width_of
width-least P vs = least-law (column_size P (zs_of P vs)) P

-- S(0) stores every value in full
size-zero : (P : ℕ) (zs : List ℕ) → column_size P zs 0 ≤ P * length zs
unfolding column_size
size-zero P zs = omega (arith, zero-mul (length zs), mul-le-mul_left P (fulls-le 0 zs))

pub size-most : (P : ℕ) (vs : List ℕ) → column_size P (zs_of P vs) (width_of P vs) ≤ P * length (zs_of P vs)
size-most P vs = omega (arith, (width-least P vs).least_of 0 zero-le, size-zero P (zs_of P vs))

-- ---- the walk that counts: the count so far and the full steps from value i on, after a, make all of them

pub fulls-none : (P n : ℕ) (vs : List ℕ) → length vs ≡ 0 → 0 ≡ fulls n (zs_of P vs)
unfolding zs_of fulls
fulls-none P n [] h = refl
fulls-none P n (v ∷ vs) h = absurd (omega arith)

pub zs-split : (P : ℕ) (vs : List ℕ) → 0 < length vs → zs_of P vs ≡ zs_after P (get_or vs 0 0) (drop 1 vs)
unfolding zs_of
zs-split P [] h = absurd (omega arith)
zs-split P (v ∷ vs) h = refl

zs-step : (P a i : ℕ) (vs : List ℕ) → i < length vs → zs_after P a (drop i vs) ≡ z_of P a (get_or vs i 0) ∷ zs_after P (get_or vs i 0) (drop (i + 1) vs)
unfolding zs_after
zs-step P a i vs h = ap (zs_after P a) (drop-cons vs i 0 h) ∙ rw add-one

-- one step more
pub count-more : (P n a i count total m z r : ℕ) (vs : List ℕ) → i < length vs → count + fulls n (zs_after P a (drop i vs)) ≡ total
    → m ≡ marker n → z ≡ z_of P a (get_or vs i 0) → r ≡ cond (leb m z) 1 0 → count + r + fulls n (zs_after P (get_or vs i 0) (drop (i + 1) vs)) ≡ total
unfolding fulls
count-more P n a i count total m z r vs l e hm hz hr =
    let q : r ≡ cond (leb (marker n) (z_of P a (get_or vs i 0))) 1 0 = rw (← hm, ← hz) hr in
    omega (arith, ap (fulls n) (zs-step P a i vs l))

-- what is counted is at most what there is
pub count-le : (P n : ℕ) (vs : List ℕ) → fulls n (zs_of P vs) ≤ length vs
count-le P n vs = omega (arith, fulls-le n (zs_of P vs), length-zs P vs)

pub count-end : (P n a i count total : ℕ) (vs : List ℕ) → length vs ≤ i → count + fulls n (zs_after P a (drop i vs)) ≡ total → count ≡ total
unfolding zs_after fulls
count-end P n a i count total vs l e = omega (arith, ap (λ (x : List ℕ). fulls n (zs_after P a x)) (drop_of_length-le vs {i = i} l))
