-- The span of a list, by the lowest and the highest number and the highest with the sign bit turned over, is in value its least and its greatest.
-- Assumes nothing.
use Rattle.std.proofs.Common.{◌≡◌, ℕ, ◌+◌, ◌-◌, ◌^◌, ◌<◌, ◌≤◌, Bool, true, false, cond, ltb, List, ◌∷◌, length, get_or, sym, refl, ap, subst, le_trans, le_refl, le_antisymm, arith, ltb-false, ltb-true, le-ltb, lt-ltb}
use Rattle.extent.specs.Rank.{key}
use Rattle.extent.specs.Boxes.{least_of, greatest_of}
use Rattle.extent.specs.Span.{lower, higher, flipped, higher_flipped, carried, by_sign, span_from, least_in, greatest_in, Spans}
use Rattle.extent.proofs.Finite.{chosen}
use Rattle.extent.proofs.Keys.{key-plus, key-minus, at-most-le, eq-same}
use Rattle.extent.proofs.Firsts.{least-met, greatest-met}
use Rattle.extent.proofs.Carrying.{Chooses, carried-best, carried-has}

-- ---- the three choices

abbrev AtLow : ℕ → ℕ → Type 0
AtLow a b = a ≤ b

abbrev AtHigh : ℕ → ℕ → Type 0
AtHigh a b = b ≤ a

abbrev AtTurned : ℕ → ℕ → Type 0
AtTurned a b = flipped b ≤ flipped a

-- a choice by a test of two numbers that f gives of each
module _ (m : ℕ → ℕ) (a v : ℕ) where
  pub higher-first : m a ≤ m (cond (ltb (m a) (m v)) v a)
  higher-first = go (ltb (m a) (m v)) refl
    where
      go : (t : Bool) → ltb (m a) (m v) ≡ t → m a ≤ m (cond t v a)
      go true e = let h = ltb-true (m a) (m v) e in omega (arith, h)
      go false e = le_refl (m a)

  pub higher-second : m v ≤ m (cond (ltb (m a) (m v)) v a)
  higher-second = go (ltb (m a) (m v)) refl
    where
      go : (t : Bool) → ltb (m a) (m v) ≡ t → m v ≤ m (cond t v a)
      go true e = le_refl (m v)
      go false e = ltb-false (m a) (m v) e

lowest : Chooses lower AtLow
unfolding lower
lowest = record {
  same = λ a. le_refl a;
  through = λ a b c p q. le_trans p q;
  first = λ a v. first (ltb v a) a v refl;
  second = λ a v. second (ltb v a) a v refl;
  has = λ P a v p q. chosen P (ltb v a) v a q p;
}
  where
    first : (t : Bool) (a v : ℕ) → ltb v a ≡ t → cond t v a ≤ a
    first true a v e = let h = ltb-true v a e in omega (arith, h)
    first false a v e = le_refl a

    second : (t : Bool) (a v : ℕ) → ltb v a ≡ t → cond t v a ≤ v
    second true a v e = le_refl v
    second false a v e = ltb-false v a e

highest : Chooses higher AtHigh
unfolding higher
highest = record {
  same = λ a. le_refl a;
  through = λ a b c p q. le_trans q p;
  first = higher-first (λ (b : ℕ). b);
  second = higher-second (λ (b : ℕ). b);
  has = λ P a v p q. chosen P (ltb a v) v a q p;
}

highest-flipped : Chooses higher_flipped AtTurned
unfolding higher_flipped
highest-flipped = record {
  same = λ a. le_refl (flipped a);
  through = λ a b c p q. le_trans q p;
  first = higher-first flipped;
  second = higher-second flipped;
  has = λ P a v p q. chosen P (ltb (flipped a) (flipped v)) v a q p;
}

-- ---- what they are in value

flipped-plus : (b : ℕ) → b < 2 ^ 63 → flipped b ≡ b + 2 ^ 63
unfolding flipped
flipped-plus b h = ap (λ (t : Bool). cond t (b + 2 ^ 63) (b - 2 ^ 63)) (lt-ltb b (2 ^ 63) h)

flipped-minus : (b : ℕ) → 2 ^ 63 ≤ b → flipped b ≡ b - 2 ^ 63
unfolding flipped
flipped-minus b h = ap (λ (t : Bool). cond t (b + 2 ^ 63) (b - 2 ^ 63)) (le-ltb b (2 ^ 63) h)

-- by the sign bit of x
by-sign : (P : Type 0) (x : ℕ) → (x < 2 ^ 63 → P) → (2 ^ 63 ≤ x → P) → P
by-sign P x f g = go (ltb x (2 ^ 63)) refl
  where
    go : (t : Bool) → ltb x (2 ^ 63) ≡ t → P
    go true e = f (ltb-true x (2 ^ 63) e)
    go false e = g (ltb-false x (2 ^ 63) e)

-- no sign bit is 1: the lowest is the least
least-plus : (low x high : ℕ) → low ≤ x → x ≤ high → high < 2 ^ 63 → key low ≤ key x
least-plus low x high p q h = let a = key-plus low (omega arith) in let b = key-plus x (omega arith) in omega (arith, a, b)

-- the sign bit of the highest is 1: it is the least
least-minus : (high x : ℕ) → x ≤ high → 2 ^ 63 ≤ high → high < 2 ^ 64 → key high ≤ key x
least-minus high x p h w =
    let a = key-minus high h w in
    by-sign (key high ≤ key x) x
    (λ s. let b = key-plus x s in omega (arith, a, b))
    (λ s. let b = key-minus x s (omega arith) in omega (arith, a, b))

-- no sign bit is 0: the lowest is the greatest
greatest-minus : (low x : ℕ) → low ≤ x → 2 ^ 63 ≤ low → x < 2 ^ 64 → key x ≤ key low
greatest-minus low x p h w = let a = key-minus low h (omega arith) in let b = key-minus x (omega arith) w in omega (arith, a, b)

-- the sign bit of the lowest is 0: the highest with its sign bit turned over is the greatest
greatest-plus : (low up x : ℕ) → flipped low ≤ flipped up → flipped x ≤ flipped up → low < 2 ^ 63 → up < 2 ^ 64 → x < 2 ^ 64 → key x ≤ key up
greatest-plus low up x p q h w z =
    let l = flipped-plus low h in
    by-sign (key x ≤ key up) up (plus l) (λ s. let t = flipped-minus up s in absurd (omega (arith, l, t)))
  where
    plus : flipped low ≡ low + 2 ^ 63 → up < 2 ^ 63 → key x ≤ key up
    plus l s =
        let t = flipped-plus up s in
        let a = key-plus up s in
        by-sign (key x ≤ key up) x
        (λ r. let b = key-plus x r in let u = flipped-plus x r in omega (arith, a, b, t, u))
        (λ r. let b = key-minus x r z in omega (arith, a, b))

-- ---- the span of a list of words

module _ (v : ℕ) (vs : List ℕ) (word : (i : ℕ) → i < length (v ∷ vs) → get_or (v ∷ vs) i 0 < 2 ^ 64) where
  abbrev l : List ℕ
  l = v ∷ vs

  abbrev low : ℕ
  low = carried lower v vs

  abbrev high : ℕ
  high = carried higher v vs

  abbrev up : ℕ
  up = carried higher_flipped v vs

  abbrev IsWord : ℕ → Type 0
  IsWord b = b < 2 ^ 64

  least_under : (i : ℕ) → i < length l → key (by_sign high low high) ≤ key (get_or l i 0)
  unfolding by_sign
  least_under i h = go (ltb high (2 ^ 63)) refl
    where
      go : (t : Bool) → ltb high (2 ^ 63) ≡ t → key (cond t low high) ≤ key (get_or l i 0)
      go true e = least-plus low (get_or l i 0) high (carried-best lower AtLow lowest v vs i h) (carried-best higher AtHigh highest v vs i h) (ltb-true high (2 ^ 63) e)
      go false e = least-minus high (get_or l i 0) (carried-best higher AtHigh highest v vs i h) (ltb-false high (2 ^ 63) e) (carried-has higher AtHigh highest IsWord v vs word)

  greatest-over : (i : ℕ) → i < length l → key (get_or l i 0) ≤ key (by_sign low up low)
  unfolding by_sign
  greatest-over i h = go (ltb low (2 ^ 63)) refl
    where
      low-flipped : flipped low ≤ flipped up
      low-flipped = carried-has lower AtLow lowest (λ (b : ℕ). flipped b ≤ flipped up) v vs (carried-best higher_flipped AtTurned highest-flipped v vs)

      go : (t : Bool) → ltb low (2 ^ 63) ≡ t → key (get_or l i 0) ≤ key (cond t up low)
      go true e =
          greatest-plus low up (get_or l i 0) low-flipped (carried-best higher_flipped AtTurned highest-flipped v vs i h) (ltb-true low (2 ^ 63) e)
          (carried-has higher_flipped AtTurned highest-flipped IsWord v vs word) (word i h)
      go false e = greatest-minus low (get_or l i 0) (carried-best lower AtLow lowest v vs i h) (ltb-false low (2 ^ 63) e) (word i h)

  -- each of the two has what each of the list has
  least-has : (P : ℕ → Type 0) → ((i : ℕ) → i < length l → P (get_or l i 0)) → P (by_sign high low high)
  unfolding by_sign
  least-has P p = chosen P (ltb high (2 ^ 63)) low high (carried-has lower AtLow lowest P v vs p) (carried-has higher AtHigh highest P v vs p)

  greatest-has : (P : ℕ → Type 0) → ((i : ℕ) → i < length l → P (get_or l i 0)) → P (by_sign low up low)
  unfolding by_sign
  greatest-has P p = chosen P (ltb low (2 ^ 63)) up low (carried-has higher_flipped AtTurned highest-flipped P v vs p) (carried-has lower AtLow lowest P v vs p)

  -- so they are its least and its greatest in value
  pub span-spans : Spans l (span_from low high up)
  unfolding least_in greatest_in
  span-spans =
      let m = least-met v vs in
      let n = greatest-met v vs in
      record {
        least =
            eq-same (by_sign high low high) (least_of v vs)
            (le_antisymm (subst (λ (b : ℕ). key (by_sign high low high) ≤ key b) (sym m.found) (least_under m.place m.inside))
            (least-has (λ (b : ℕ). key (least_of v vs) ≤ key b) (λ i h. at-most-le (least_of v vs) (get_or l i 0) (m.best i h))));
        greatest =
            eq-same (by_sign low up low) (greatest_of v vs)
            (le_antisymm (greatest-has (λ (b : ℕ). key b ≤ key (greatest_of v vs)) (λ i h. at-most-le (get_or l i 0) (greatest_of v vs) (n.best i h)))
            (subst (λ (b : ℕ). key b ≤ key (by_sign low up low)) (sym n.found) (greatest-over n.place n.inside)));
      }
