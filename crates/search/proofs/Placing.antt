-- Laws of the places of hits: outline by outline, as they are counted and as bits. Assumes nothing.
use mathlib.Core.Path.{◌≡◌, refl, sym, ap, ◌∙◌, subst}
use mathlib.Core.Bool.{Bool, true, false, cond}
use mathlib.Core.List.{List, [], ◌∷◌}
use Prim.Native.Nat.{ℕ, suc, ◌+◌, ◌*◌, ◌^◌, ◌≤◌, ◌<◌}
use native.Mathlib.Numerals.{add-one}
use native.Mathlib.Omega.{arith}
use lib.ListN.{length, drop}
use lib.Pow.{pow-add}
use Rattle.le.specs.Number.{number}
use Rattle.query.specs.declared.ask.Ask.{Ask}
use Rattle.query.specs.Ask.{hit}
use Rattle.shape.specs.Outline.{Outline}
use Rattle.search.specs.Ascending.{Ascending, none, more}
use Rattle.search.specs.Search.{places_of}
use Rattle.search.specs.Flags.{bits_of, only_if, Adds}
use Rattle.search.proofs.Rising.{rising-wider}

-- whether an outline is hit
abbrev pub is_hit : Ask → Outline → Bool
is_hit a o = hit a o.xs o.ys

module _ (a : Ask) (n : ℕ) (o : Outline) (os : List Outline) where
  pub count-more : length (places_of a n (o ∷ os)) ≡ only_if (is_hit a o) 1 + length (places_of a (n + 1) os)
  unfolding places_of
  count-more = rw (add-one n) (go (is_hit a o))
    where
      go : (b : Bool) → length (cond b (n ∷ places_of a (suc n) os) (places_of a (suc n) os)) ≡ only_if b 1 + length (places_of a (suc n) os)
      go true = omega arith
      go false = omega arith

  pub bits-more : bits_of (places_of a n (o ∷ os)) ≡ only_if (is_hit a o) (2 ^ n) + bits_of (places_of a (n + 1) os)
  unfolding places_of bits_of
  bits-more = rw (add-one n) (go (is_hit a o))
    where
      go : (b : Bool) → bits_of (cond b (n ∷ places_of a (suc n) os) (places_of a (suc n) os)) ≡ only_if b (2 ^ n) + bits_of (places_of a (suc n) os)
      go true = refl
      go false = omega arith

pub places-none : (a : Ask) (n : ℕ) → places_of a n [] ≡ []
unfolding places_of
places-none a n = refl

pub bits_none : bits_of [] ≡ 0
unfolding bits_of
bits_none = refl

-- a number below a power, and a bit at it, or none
under : (b : Bool) (x k : ℕ) → x < 2 ^ k → x + only_if b (2 ^ k) < 2 ^ (k + 1)
under true x k h = let p : 2 ^ (k + 1) ≡ 2 ^ k * 2 = pow-add 2 k 1 in omega (arith, h, p)
under false x k h = let p : 2 ^ (k + 1) ≡ 2 ^ k * 2 = pow-add 2 k 1 in omega (arith, h, p)

one-le : (b : Bool) → only_if b 1 ≤ 1
one-le true = omega arith
one-le false = omega arith

-- they ascend, and none is past the last outline
pub places-ascend : (a : Ask) (n : ℕ) (os : List Outline) → Ascending (n + length os) n (places_of a n os)
unfolding places_of
places-ascend a n [] = none
places-ascend a n (o ∷ os) = go (is_hit a o) (subst (λ (to : ℕ). Ascending to (suc n) (places_of a (suc n) os)) up (places-ascend a (suc n) os))
  where
    up : suc n + length os ≡ n + suc (length os)
    up = omega arith

    go : (b : Bool) → Ascending (n + suc (length os)) (suc n) (places_of a (suc n) os)
        → Ascending (n + suc (length os)) n (cond b (n ∷ places_of a (suc n) os) (places_of a (suc n) os))
    go true others = more {n = n} {p = n} (omega arith) (omega arith) others
    go false others = rising-wider (suc n) n (places_of a (suc n) os) (omega arith) (omega arith) others

-- ---- the walk over the outlines of a page, as they are noted

-- of the outlines os, the first of which has place n, i are passed: so many were found, and the flags d₀ have become d
pub record Noting (a : Ask) (n : ℕ) (os : List Outline) (to : ℕ) (d₀ : List ℕ) (i found : ℕ) (d : List ℕ) : Type 0 where
  pub few : found ≤ i
  pub long : length d ≡ length d₀
  pub count : found + length (places_of a (n + i) (drop i os)) ≡ length (places_of a n os)
  pub low : to ≤ 8 * length d₀ → number d₀ < 2 ^ n → number d < 2 ^ (n + i)
  pub bits : to ≤ 8 * length d₀ → number d₀ < 2 ^ n → number d + bits_of (places_of a (n + i) (drop i os)) ≡ number d₀ + bits_of (places_of a n os)

pub noting-none : (a : Ask) (n : ℕ) (os : List Outline) (to : ℕ) (d : List ℕ) → Noting a n os to d 0 0 d
noting-none a n os to d =
    let z : n + 0 ≡ n = omega arith in
    let c : length (places_of a (n + 0) os) ≡ length (places_of a n os) = ap (λ (k : ℕ). length (places_of a k os)) z in
    record {
      few = omega arith;
      long = refl;
      count = omega (arith, c);
      low = λ _ l. subst (λ (k : ℕ). number d < 2 ^ k) (sym z) l;
      bits = λ _ _. ap (λ (k : ℕ). number d + bits_of (places_of a k os)) z;
    }

module _ (a : Ask) (n : ℕ) (os : List Outline) (to : ℕ) (d₀ : List ℕ) (i found : ℕ) (d : List ℕ) (w : Noting a n os to d₀ i found d) where
  module _ (o : Outline) (r : ℕ) (e : List ℕ) (stands : drop i os ≡ o ∷ drop (i + 1) os) (here : n + i + 1 ≤ to)
      (er : r ≡ only_if (is_hit a o) 1) (ad : Adds d e (n + i) (n + i + 1) (only_if (is_hit a o) (2 ^ (n + i)))) (le : length e ≡ length d) where
    pub noting-few : found + r ≤ i + 1
    noting-few = omega (arith, w.few, er, one-le (is_hit a o))

    next : n + i + 1 ≡ n + (i + 1)
    next = omega arith

    pub noting-more : Noting a n os to d₀ (i + 1) (found + r) e
    noting-more = record { few = noting-few; long = le ∙ w.long; count = counted; low = lower; bits = bitted }
      where
        counted : found + r + length (places_of a (n + (i + 1)) (drop (i + 1) os)) ≡ length (places_of a n os)
        counted =
            let c : length (places_of a (n + i) (drop i os)) ≡ only_if (is_hit a o) 1 + length (places_of a (n + (i + 1)) (drop (i + 1) os)) = ap (λ (l : List Outline). length (places_of a (n + i) l)) stands ∙ count-more a (n + i) o (drop (i + 1) os) ∙ ap (λ (k : ℕ). only_if (is_hit a o) 1 + length (places_of a k (drop (i + 1) os))) next in
            omega (arith, c, w.count, er)

        grown : to ≤ 8 * length d₀ → number d₀ < 2 ^ n → number e ≡ number d + only_if (is_hit a o) (2 ^ (n + i))
        grown t l = ad.added (omega (arith, here, t, w.long)) (w.low t l)

        lower : to ≤ 8 * length d₀ → number d₀ < 2 ^ n → number e < 2 ^ (n + (i + 1))
        lower t l = rw (grown t l, ← next) (under (is_hit a o) (number d) (n + i) (w.low t l))

        bitted : to ≤ 8 * length d₀ → number d₀ < 2 ^ n → number e + bits_of (places_of a (n + (i + 1)) (drop (i + 1) os)) ≡ number d₀ + bits_of (places_of a n os)
        bitted t l =
            let c : bits_of (places_of a (n + i) (drop i os)) ≡ only_if (is_hit a o) (2 ^ (n + i)) + bits_of (places_of a (n + (i + 1)) (drop (i + 1) os)) = ap (λ (l : List Outline). bits_of (places_of a (n + i) l)) stands ∙ bits-more a (n + i) o (drop (i + 1) os) ∙ ap (λ (k : ℕ). only_if (is_hit a o) (2 ^ (n + i)) + bits_of (places_of a k (drop (i + 1) os))) next in
            let g = grown t l in
            let b = w.bits t l in
            omega (arith, c, g, b)

  pub noting-done : drop i os ≡ [] → (found ≡ length (places_of a n os)) × Adds d₀ d n to (bits_of (places_of a n os))
  noting-done z =
      let p : places_of a (n + i) (drop i os) ≡ [] = ap (places_of a (n + i)) z ∙ places-none a (n + i) in
      let c : length (places_of a (n + i) (drop i os)) ≡ 0 = ap length p in
      let b : bits_of (places_of a (n + i) (drop i os)) ≡ 0 = ap bits_of p ∙ bits_none in
      (omega (arith, c, w.count), record { added = λ t l. (let k = w.bits t l in omega (arith, b, k)) })
