-- Places put in a lent list one after the other: what is still to be put makes the same whole. Assumes nothing.
use mathlib.Core.Path.{◌≡◌, refl, sym, ap, ◌∙◌, subst}
use mathlib.Core.List.{List, [], ◌∷◌, ◌++◌}
use Prim.Native.Nat.{ℕ, zero, suc, ◌+◌, ◌-◌, ◌*◌, ◌/◌, ◌%◌, ◌^◌, ◌≤◌, ◌<◌}
use native.Mathlib.Nat.{div-one}
use native.Mathlib.Numerals.{add-one}
use native.Mathlib.Omega.{arith}
use borrow.Author.Tests.{eq-eqb, ne_eqb}
use lib.Dec.{eqb}
use lib.ListN.{length, set, length-append, drop_of_length-le}
use lib.Pow.{shr-shr}
use lib.Seq.{sets, length-sets}
use Rattle.le.specs.Number.{field}
use Rattle.le.proofs.Stores.{sets-append}
use Rattle.search.specs.Flags.{places_in, only_place}
use Rattle.search.proofs.Bits.{lowest, places-bit, places-zero, places-none, places-split}

-- at k the rest is still to be put in e, and that makes the whole put at at in d
pub record Listing (d : List ℕ) (at : ℕ) (whole : List ℕ) (e : List ℕ) (k : ℕ) (rest : List ℕ) : Type 0 where
  pub long : length e ≡ length d
  pub count : k + length rest ≡ at + length whole
  pub same : sets e k rest ≡ sets d at whole

pub listing_none : (d : List ℕ) (at : ℕ) (whole : List ℕ) → Listing d at whole d at whole
listing_none d at whole = record { long = refl; count = refl; same = refl }

module _ (d : List ℕ) (at : ℕ) (whole e : List ℕ) (k : ℕ) (rest : List ℕ) (w : Listing d at whole e k rest) where
  pub listing-more : (here after : List ℕ) (e' : List ℕ) (k' : ℕ) → rest ≡ here ++ after → e' ≡ sets e k here → k' ≡ k + length here
      → Listing d at whole e' k' after
  listing-more here after e' k' q s h = record {
    long = ap length s ∙ length-sets e k here ∙ w.long;
    count = (let z : length rest ≡ length here + length after = ap length q ∙ length-append here after in omega (arith, z, w.count, h));
    same = (λ i. sets (s i) (h i) after) ∙ sym (sets-append here after e k) ∙ ap (sets e k) (sym q) ∙ w.same;
  }

  -- what is next has room
  pub listing-room : (here after : List ℕ) → rest ≡ here ++ after → at + length whole ≤ length d → k + length here ≤ length e
  listing-room here after q r =
      let z : length rest ≡ length here + length after = ap length q ∙ length-append here after in
      omega (arith, z, w.count, w.long, r)

  pub listing-done : rest ≡ [] → (k ≡ at + length whole) × (e ≡ sets d at whole)
  listing-done z =
      let y : length rest ≡ 0 = ap length z in
      (omega (arith, y, w.count), ap (sets e k) (sym z) ∙ w.same)

-- ---- one bit

pub bit-set : (bit place : ℕ) → bit ≡ 1 → only_place (eqb bit 1) place ≡ place ∷ []
bit-set bit place e = rw (eq-eqb bit 1 e)

pub bit-clear : (bit place : ℕ) → (bit ≡ 1 → ⊥) → only_place (eqb bit 1) place ≡ []
bit-clear bit place e = rw (ne_eqb bit 1 e)

pub bit-room : (bit place at n : ℕ) → bit ≡ 1 → at + length (only_place (eqb bit 1) place) ≤ n → at < n
bit-room bit place at n e h = let z : length (only_place (eqb bit 1) place) ≡ 1 = ap length (bit-set bit place e) in omega (arith, z, h)

module _ (d : List ℕ) (bit place at : ℕ) where
  pub bit-listed : bit ≡ 1 → (at + 1 ≡ at + length (only_place (eqb bit 1) place)) × (set d at place ≡ sets d at (only_place (eqb bit 1) place))
  bit-listed e = rw (bit-set bit place e) (refl, refl)

  pub bit-left : (bit ≡ 1 → ⊥) → (at ≡ at + length (only_place (eqb bit 1) place)) × (d ≡ sets d at (only_place (eqb bit 1) place))
  bit-left e = rw (bit-clear bit place e) (omega arith, refl)

-- ---- the bits of a word, the lowest first

-- y is what is left of x, whose lowest bit was that of place n
pub record Wording (x n : ℕ) (d : List ℕ) (at y place : ℕ) (e : List ℕ) (k : ℕ) : Type 0 where
  pub listing : Listing d at (places_in n 64 x) e k (places_in place (n + 64 - place) y)
  pub from : n ≤ place
  pub to : place ≤ n + 64
  pub under : y < 2 ^ (n + 64 - place)

pub wording-none : (x n : ℕ) (d : List ℕ) (at : ℕ) → x < 2 ^ 64 → Wording x n d at x n d at
wording-none x n d at h =
    let z : 64 ≡ n + 64 - n = omega arith in
    record {
      listing = subst (λ (m : ℕ). Listing d at (places_in n 64 x) d at (places_in n m x)) z (listing_none d at (places_in n 64 x));
      from = omega arith;
      to = omega arith;
      under = subst (λ (m : ℕ). x < 2 ^ m) z h;
    }

module _ (x n : ℕ) (d : List ℕ) (at y place : ℕ) (e : List ℕ) (k : ℕ) (w : Wording x n d at y place e k) where
  module _ (some : y ≡ 0 → ⊥) where
    -- a bit is left
    pub wording-here : place < n + 64
    wording-here = go (n + 64 - place) refl
      where
        go : (m : ℕ) → n + 64 - place ≡ m → place < n + 64
        go zero z = absurd (some (let u : y < 1 = subst (λ (m : ℕ). y < 2 ^ m) z w.under in omega arith))
        go (suc m) z = omega arith

    one_more : n + 64 - place ≡ suc (n + 64 - (place + 1))
    one_more = omega (arith, wording-here)

    pub wording-split : places_in place (n + 64 - place) y ≡ lowest place y ++ places_in (place + 1) (n + 64 - (place + 1)) (y / 2)
    wording-split =
        ap (λ (m : ℕ). places_in place m y) one_more
        ∙ places-bit place (n + 64 - (place + 1)) y
        ∙ ap (λ (p : ℕ). lowest place y ++ places_in p (n + 64 - (place + 1)) (y / 2)) (sym (add-one place))

    pub wording-room : at + length (places_in n 64 x) ≤ length d → k + length (lowest place y) ≤ length e
    wording-room r = listing-room d at (places_in n 64 x) e k (places_in place (n + 64 - place) y) w.listing (lowest place y) _ wording-split r

    pub wording-more : (e' : List ℕ) (k' : ℕ) → e' ≡ sets e k (lowest place y) → k' ≡ k + length (lowest place y)
        → Wording x n d at (y / 2) (place + 1) e' k'
    wording-more e' k' s h = record {
      listing = listing-more d at (places_in n 64 x) e k (places_in place (n + 64 - place) y) w.listing (lowest place y) _ e' k' wording-split s h;
      from = omega (arith, w.from);
      to = omega (arith, wording-here);
      under = halved;
    }
      where
        halved : y / 2 < 2 ^ (n + 64 - (place + 1))
        halved =
            let m = n + 64 - (place + 1) in
            let u : y < 2 ^ suc m = subst (λ (j : ℕ). y < 2 ^ j) one_more w.under in
            let p : 2 ^ suc m ≡ 2 ^ m * 2 = omega arith in
            omega (arith, u, p)

  pub wording-done : y ≡ 0 → (k ≡ at + length (places_in n 64 x)) × (e ≡ sets d at (places_in n 64 x))
  wording-done z =
      listing-done d at (places_in n 64 x) e k (places_in place (n + 64 - place) y) w.listing
      (ap (places_in place (n + 64 - place)) z ∙ places-zero place (n + 64 - place))

-- ---- a number's bits, word by word

pub record Flagging (x : ℕ) (d : List ℕ) (e : List ℕ) (k place : ℕ) : Type 0 where
  pub listing : Listing d 0 (places_in 0 262144 x) e k (places_in place (262144 - place) (x / 2 ^ place))
  pub to : place ≤ 262144
  pub words : place % 64 ≡ 0

pub flagging-none : (x : ℕ) (d : List ℕ) → Flagging x d d 0 0
flagging-none x d = record {
  listing = subst (λ (y : ℕ). Listing d 0 (places_in 0 262144 x) d 0 (places_in 0 262144 y)) (sym (div-one x)) (listing_none d 0 (places_in 0 262144 x));
  to = omega arith;
  words = refl;
}

module _ (x : ℕ) (d : List ℕ) (e : List ℕ) (k place : ℕ) (w : Flagging x d e k place) where
  module _ (more : k < length (places_in 0 262144 x)) where
    -- a word is left
    pub flagging-here : place + 64 ≤ 262144
    flagging-here = go (262144 - place) refl
      where
        go : (m : ℕ) → 262144 - place ≡ m → place + 64 ≤ 262144
        go zero z =
            let l : length (places_in place (262144 - place) (x / 2 ^ place)) ≡ 0 = ap (λ (m : ℕ). length (places_in place m (x / 2 ^ place))) z ∙ ap length (places-none place (x / 2 ^ place)) in
            absurd (omega (arith, l, w.listing.count, more))
        go (suc m) z = omega (arith, z, w.words, w.to)

    pub flagging-split : places_in place (262144 - place) (x / 2 ^ place)
        ≡ places_in place 64 (field x place 64) ++ places_in (place + 64) (262144 - (place + 64)) (x / 2 ^ (place + 64))
    flagging-split =
        let z : 262144 - place ≡ 64 + (262144 - (place + 64)) = omega (arith, flagging-here) in
        ap (λ (m : ℕ). places_in place m (x / 2 ^ place)) z
        ∙ places-split 64 place (262144 - (place + 64)) (x / 2 ^ place)
        ∙ ap (λ (y : ℕ). places_in place 64 (field x place 64) ++ places_in (place + 64) (262144 - (place + 64)) y) (shr-shr x place 64)

    pub flagging-room : length (places_in 0 262144 x) ≤ length d → k + length (places_in place 64 (field x place 64)) ≤ length e
    flagging-room r = listing-room d 0 (places_in 0 262144 x) e k _ w.listing (places_in place 64 (field x place 64)) _ flagging-split (omega (arith, r))

    pub flagging-more : (e' : List ℕ) (k' : ℕ) → e' ≡ sets e k (places_in place 64 (field x place 64)) → k' ≡ k + length (places_in place 64 (field x place 64))
        → Flagging x d e' k' (place + 64)
    flagging-more e' k' s h = record {
      listing = listing-more d 0 (places_in 0 262144 x) e k _ w.listing (places_in place 64 (field x place 64)) _ e' k' flagging-split s h;
      to = flagging-here;
      words = omega (arith, w.words);
    }

  pub flagging-done : length (places_in 0 262144 x) ≤ k → e ≡ sets d 0 (places_in 0 262144 x)
  flagging-done h = (listing-done d 0 (places_in 0 262144 x) e k _ w.listing (drop_of_length-le (places_in place (262144 - place) (x / 2 ^ place)) {i = 0} (omega (arith, h, w.listing.count)))).1

-- what is left of a word gets less
pub half-less : (y : ℕ) → (y ≡ 0 → ⊥) → y / 2 < y
half-less zero n = absurd (n refl)
half-less (suc y) n = omega arith
