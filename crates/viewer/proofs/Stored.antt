-- Four words at the start of a list, and what single words of a writer's state stand for. Assumes nothing.
use Prim.Native.Nat.{ℕ, ◌≤◌, ◌<◌}
use mathlib.Core.Path.{◌≡◌, refl, sym, ap, ◌∙◌}
use mathlib.Core.Bool.{Bool, true, false, not}
use mathlib.Core.List.{List, [], ◌∷◌, ◌++◌}
use native.Mathlib.Omega.{arith}
use lib.Dec.{leb, eqb}
use lib.ListN.{length, get_or, set, drop}
use borrow.Author.Tests.{le-leb, lt-leb, leb-true, leb-false}
use Rattle.answer.specs.Table as table
use Rattle.answer.specs.Refusal.{because}
use Rattle.answer.specs.Outcome.{Out, refused, on}
use Rattle.answer.proofs.Rules.{rule-holds, rule-fails}
use Rattle.writer.specs.State.{state_with}
use Rattle.viewer.specs.Four.{four_rule, capped_count, flag_of, state_of}

-- stored one after the other, they stand before what stood behind the fourth
pub four-put : (d : List ℕ) (a b c e : ℕ) → 4 ≤ length d → set (set (set (set d 0 a) 1 b) 2 c) 3 e ≡ (a ∷ b ∷ c ∷ e ∷ []) ++ drop 4 d
four-put [] a b c e h = absurd (omega arith)
four-put (v ∷ []) a b c e h = absurd (omega arith)
four-put (v ∷ w ∷ []) a b c e h = absurd (omega arith)
four-put (v ∷ w ∷ x ∷ []) a b c e h = absurd (omega arith)
four-put (v ∷ w ∷ x ∷ y ∷ d) a b c e h = refl

-- too few are refused before all else; with enough the rest goes on
module _ {A : Type 0} (ws : List ℕ) (f : Unit {0} → Out A) where
  pub four-short : length ws < 4 → on (four_rule ws) f ≡ refused (because table.room)
  unfolding four_rule on
  four-short h = rw (rule-fails _ table.room (lt-leb 4 (length ws) h))

  pub four-enough : 4 ≤ length ws → on (four_rule ws) f ≡ f tt
  unfolding four_rule on
  four-enough h = rw (rule-holds _ table.room (le-leb 4 (length ws) h))

-- a count of 32 bits
pub count-above : (w : ℕ) → 4294967295 < w → 4294967295 ≡ capped_count w
unfolding capped_count
count-above w h = simp (lt-leb w 4294967295 h)

pub count-within : (w : ℕ) → w ≤ 4294967295 → w ≡ capped_count w
unfolding capped_count
count-within w h = simp (le-leb w 4294967295 h)

-- a limit below the greatest judges the count as it would judge the word
pub count-limit : (w m : ℕ) → m < 4294967295 → leb (capped_count w) m ≡ leb w m
count-limit w m h = go (leb w 4294967295) refl
  where
    go : (t : Bool) → leb w 4294967295 ≡ t → leb (capped_count w) m ≡ leb w m
    go true e = sym (ap (λ (x : ℕ). leb x m) (count-within w (leb-true w 4294967295 e)))
    go false e =
        let a = leb-false w 4294967295 e in
        let b : m < w = omega (arith, h, a) in
        sym (ap (λ (x : ℕ). leb x m) (count-above w a)) ∙ lt-leb 4294967295 m h ∙ sym (lt-leb w m b)

-- a flag
pub flag-closed : (t : Bool) → t ≡ true → 1 ≡ flag_of t
unfolding flag_of
flag-closed t e = rw e

pub flag-open : (t : Bool) → t ≡ false → 0 ≡ flag_of t
unfolding flag_of
flag-open t e = rw e

-- a state, word by word
pub state-is : (ws : List ℕ) (pages shapes : ℕ) → pages ≡ capped_count (get_or ws 1 0) → shapes ≡ capped_count (get_or ws 2 0)
    → state_with (get_or ws 0 0) pages shapes (not (eqb (get_or ws 3 0) 0)) ≡ state_of ws
unfolding state_of
state-is ws pages shapes p q = rw (p, q)
