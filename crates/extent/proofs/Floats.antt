-- The float of a finite pattern, whatever number the pattern is: its own pattern is the same but for bits past the 64th, so that it is finite too and
-- compares as the pattern does. Assumes nothing.
use Rattle.std.proofs.Common.{◌≡◌, ℕ, ◌+◌, ◌/◌, ◌%◌, ◌^◌, ◌<◌, Bool, true, false, cond, ltb, leb, sym, ap, ◌∙◌, ap₂, arith, le-leb}
use borrow.Author.Tests.{lt-leb}
use lib.Ieee.{binary64, of_fields, of_bits}
use lib.Signed.{le_z}
use Rattle.answer.proofs.Both.{both}
use Rattle.extent.specs.Rank.{signed, rank, finite, at_most}
use Rattle.extent.specs.declared.bounds.Bounds.{Bounds}
use Rattle.extent.specs.Boxes.{FiniteBox, pattern_of, patterns, in_order, good_form}
use Rattle.extent.specs.Forms.{floats_of}
use Rattle.extent.proofs.Patterns.{bits_back}
use Rattle.extent.proofs.Finite.{four-finite}
use Rattle.extent.proofs.Forms.{good-finite, order-good}
use Rattle.extent.proofs.Meeting.{order-x, order-y}

-- a number's sign and low 63 bits, as 64 bits
abbrev word : ℕ → ℕ
word b = cond (leb (2 ^ 63) b) (2 ^ 63) 0 + b % 2 ^ 63

module _ (b : ℕ) where
  word_size : word b % 2 ^ 63 ≡ b % 2 ^ 63
  word_size = go (leb (2 ^ 63) b)
    where
      go : (t : Bool) → (cond t (2 ^ 63) 0 + b % 2 ^ 63) % 2 ^ 63 ≡ b % 2 ^ 63
      go true = omega arith
      go false = omega arith

  word-less : word b < 2 ^ 64
  word-less = go (leb (2 ^ 63) b)
    where
      go : (t : Bool) → cond t (2 ^ 63) 0 + b % 2 ^ 63 < 2 ^ 64
      go true = omega arith
      go false = omega arith

  word-sign : leb (2 ^ 63) (word b) ≡ leb (2 ^ 63) b
  word-sign = go (leb (2 ^ 63) b)
    where
      go : (t : Bool) → leb (2 ^ 63) (cond t (2 ^ 63) 0 + b % 2 ^ 63) ≡ t
      go true = le-leb (2 ^ 63) (2 ^ 63 + b % 2 ^ 63) (omega arith)
      go false = lt-leb (2 ^ 63) (0 + b % 2 ^ 63) (omega arith)

  word-rank : rank (word b) ≡ rank b
  unfolding rank
  word-rank = ap₂ signed word-sign word_size

  word-finite : finite (word b) ≡ finite b
  unfolding finite
  word-finite = ap (λ (n : ℕ). ltb n 2047) (field (word b) b word_size)
    where
      field : (x y : ℕ) → x % 2 ^ 63 ≡ y % 2 ^ 63 → x / 2 ^ 52 % 2048 ≡ y / 2 ^ 52 % 2048
      field x y e = omega arith

  word-float : of_bits binary64 (word b) ≡ of_bits binary64 b
  unfolding of_bits
  word-float =
      ap₂ (λ (s : Bool) (n : ℕ). of_fields binary64 s (n / 2 ^ 52) (word b % 2 ^ 52)) word-sign word_size
      ∙ ap (of_fields binary64 (leb (2 ^ 63) b) (b % 2 ^ 63 / 2 ^ 52)) (digits (word b) b word_size)
    where
      digits : (x y : ℕ) → x % 2 ^ 63 ≡ y % 2 ^ 63 → x % 2 ^ 52 ≡ y % 2 ^ 52
      digits x y e = omega arith

  -- the pattern of the float of a finite pattern
  float_word : finite b ≡ true → pattern_of (of_bits binary64 b) ≡ word b
  float_word f = ap pattern_of (sym word-float) ∙ bits_back (word b) word-less (word-finite ∙ f)

  -- is finite
  pub float-finite : finite b ≡ true → finite (pattern_of (of_bits binary64 b)) ≡ true
  float-finite f = ap finite (float_word f) ∙ word-finite ∙ f

  -- and has the same rank
  pub float-rank : finite b ≡ true → rank (pattern_of (of_bits binary64 b)) ≡ rank b
  float-rank f = ap rank (float_word f) ∙ word-rank

-- so they compare as the patterns do
pub float_at_most : (a b : ℕ) → finite a ≡ true → finite b ≡ true → at_most (pattern_of (of_bits binary64 a)) (pattern_of (of_bits binary64 b)) ≡ at_most a b
unfolding at_most
float_at_most a b f g = ap₂ le_z (float-rank a f) (float-rank b g)

-- the floats of four patterns of good form are of good form
pub floats-good : (p : Bounds) → good_form p ≡ true → good_form (patterns (floats_of p)) ≡ true
floats-good p g = order-good (patterns (floats_of p)) (four-finite (patterns (floats_of p)) fine) order
  where
    f : FiniteBox p
    f = good-finite p g

    fine : FiniteBox (patterns (floats_of p))
    fine = record {
      least_x = float-finite p.least_x f.least_x;
      least_y = float-finite p.least_y f.least_y;
      greatest_x = float-finite p.greatest_x f.greatest_x;
      greatest_y = float-finite p.greatest_y f.greatest_y;
    }

    order : in_order (patterns (floats_of p)) ≡ true
    order =
        unfold in_order in
        both (float_at_most p.least_x p.greatest_x f.least_x f.greatest_x ∙ order-x p g)
        (float_at_most p.least_y p.greatest_y f.least_y f.greatest_y ∙ order-y p g)
