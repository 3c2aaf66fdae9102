-- One call, one law for each way through it. Over the pattern size P. Assumes nothing.
use mathlib.Core.Path.{◌≡◌, refl, sym, ap, ◌∙◌}
use mathlib.Core.List.{List}
use mathlib.Core.Bool.{Bool, true, false}
use mathlib.Core.Logic.{inl, inr, ⊎_elim}
use Prim.Native.Nat.{ℕ, ◌+◌, ◌-◌, ◌*◌, ◌/◌, ◌%◌, ◌^◌, ◌≤◌, ◌<◌}
use native.Mathlib.Decide.{dec_lt}
use native.Mathlib.Omega.{arith}
use lib.Dec.{leb, ltb}
use lib.ListN.{length, get_or}
use borrow.Author.Tests.{le-leb, lt-leb, le-ltb, lt-ltb, eq-eqb, ne_eqb, leb-true, leb-false}
use Rattle.answer.specs.Table as Table
use Rattle.answer.specs.Refusal.{because, at_value}
use Rattle.answer.specs.declared.Refusal.{Refusal}
use Rattle.answer.specs.Outcome.{Out, refused, ok, need}
use Rattle.answer.proofs.Outcomes.{met, unmet}
use Rattle.le.specs.Number.{number, field}
use Rattle.entry.specs.Step.{marker}
use Rattle.entry.specs.Entry.{size_at, value_at}
use Rattle.entry.proofs.Reading.{size-le, size-short, size-full}
use Rattle.column.specs.declared.Position.{Position}
use Rattle.column.specs.Column.{whole}
use Rattle.column.specs.Read.{end_rules}
use Rattle.step.specs.declared.Answer.TheVariants.{Value, End, Refused}
use Rattle.step.specs.Step.{ValueOrEnd, value, end, position, coming, first_call, later_call, step_of, answer_with}

-- whole bytes without a sum that could pass 64 bits
pub whole-law : (at : ℕ) → at / 8 + (at % 8 + 7) / 8 ≡ whole at
whole-law at = omega arith

-- a refusal, a value, the end
pub said-refused : {o : Out ValueOrEnd} (p : Position) (w : Refusal) → o ≡ refused w → Refused w p ≡ answer_with p o
unfolding answer_with
said-refused p w e = rw e

pub said-value : {o : Out ValueOrEnd} (p q : Position) (v : ℕ) → o ≡ ok (value v q) → Value v q ≡ answer_with p o
unfolding answer_with
said-value p q v e = rw e

pub said-end : {o : Out ValueOrEnd} (p : Position) → o ≡ ok end → End p ≡ answer_with p o
unfolding answer_with
said-end p e = rw e

-- ---- with none given

module _ (P : ℕ) (s : List ℕ) (n : ℕ) where
  pub first-none : n ≡ 0 → first_call P s n ≡ end_rules s 0 0 (ok end)
  unfolding first_call
  first-none e = simp (eq-eqb _ _ e)

  module _ (h0 : n ≡ 0 → ⊥) where
    pub first-empty : length s ≡ 0 → first_call P s n ≡ refused (because Table.bits)
    unfolding first_call
    first-empty l = simp (ne_eqb _ _ h0) (unmet _ _ (lt-leb 1 (length s) (omega arith)))

    module _ (hs : length s ≡ 0 → ⊥) where
      pub first-wide : P < get_or s 0 0 → first_call P s n ≡ refused (because Table.width)
      unfolding first_call
      first-wide l = simp (ne_eqb _ _ h0) (met _ _ (le-leb 1 (length s) (omega arith)) ∙ unmet _ _ (lt-leb _ _ l))

      module _ (hw : get_or s 0 0 ≤ P) where
        pub first_short : 8 * length s < 8 + P → first_call P s n ≡ refused (because Table.bits)
        unfolding first_call
        first_short l = simp (ne_eqb _ _ h0) (met _ _ (le-leb 1 (length s) (omega arith)) ∙ met _ _ (le-leb _ _ hw) ∙ unmet _ _ (lt-leb _ _ l))

        pub first-value : 8 + P ≤ 8 * length s → first_call P s n ≡ ok (value (field (number s) 8 P) (position (8 + P) 1 (get_or s 0 0) (field (number s) 8 P)))
        unfolding first_call
        first-value l = simp (ne_eqb _ _ h0) (met _ _ (le-leb 1 (length s) (omega arith)) ∙ met _ _ (le-leb _ _ hw) ∙ met _ _ (le-leb _ _ l))

-- ---- with some given

module _ (P : ℕ) (s : List ℕ) (n : ℕ) (p : Position) where
  abbrev next_place : ℕ
  next_place = p.at + size_at P (number s) p.width p.at

  abbrev next-value : ℕ
  next-value = value_at P (number s) p.width p.at p.last

  pub later-wide : P < p.width → later_call P s n p ≡ refused (because Table.width)
  unfolding later_call
  later-wide h = unmet _ _ (lt-leb _ _ h)

  module _ (hw : p.width ≤ P) where
    pub later-past : 8 * length s < p.at → later_call P s n p ≡ refused (at_value (coming n p.given) (because Table.bits))
    unfolding later_call
    later-past h = met _ _ (le-leb _ _ hw) ∙ unmet _ _ (lt-leb _ _ h)

    module _ (ha : p.at ≤ 8 * length s) where
      pub later-end : n ≤ p.given → later_call P s n p ≡ end_rules s n p.at (ok end)
      unfolding later_call
      later-end h = met _ _ (le-leb _ _ hw) ∙ met _ _ (le-leb _ _ ha) ∙ simp (le-leb _ _ h)

      module _ (hg : p.given < n) where
        abbrev lacking : Refusal
        lacking = at_value p.given (because Table.bits)

        going : later_call P s n p ≡ need (leb next_place (8 * length s)) lacking (need (ltb next_place (2 ^ 64)) lacking (ok (value next-value (position next_place (p.given + 1) p.width next-value))))
        unfolding later_call
        going = met _ _ (le-leb _ _ hw) ∙ met _ _ (le-leb _ _ ha) ∙ simp (lt-leb _ _ hg)

        pub later-short : 8 * length s < next_place → later_call P s n p ≡ refused lacking
        later-short h = going ∙ unmet _ _ (lt-leb _ _ h)

        pub later-over : 2 ^ 64 ≤ next_place → later_call P s n p ≡ refused lacking
        later-over h = going ∙ either (leb next_place (8 * length s)) refl
          where
            either : (t : Bool) → leb next_place (8 * length s) ≡ t
                → need (leb next_place (8 * length s)) lacking (need (ltb next_place (2 ^ 64)) lacking (ok (value next-value (position next_place (p.given + 1) p.width next-value)))) ≡ refused lacking
            either true e = met _ _ e ∙ unmet _ _ (le-ltb _ _ h)
            either false e = unmet _ _ e

        pub later-value : next_place ≤ 8 * length s → next_place < 2 ^ 64 → later_call P s n p ≡ ok (value next-value (position next_place (p.given + 1) p.width next-value))
        later-value h l = going ∙ met _ _ (le-leb _ _ h) ∙ met _ _ (lt-ltb _ _ l)

-- ---- the value at which a call stands

pub coming-next : (n given : ℕ) → given < n → given ≡ coming n given
unfolding coming
coming-next n given h = simp (lt-ltb given n h)

pub coming-none : (n given : ℕ) → n ≤ given → n ≡ coming n given
unfolding coming
coming-none n given h = simp (le-ltb given n h)

-- ---- the call

module _ (P : ℕ) (s : List ℕ) (n : ℕ) (p : Position) where
  pub next-many : 2048 < n → step_of P s n p ≡ refused (because Table.many)
  unfolding step_of
  next-many h = unmet _ _ (lt-leb _ _ h)

  pub next-first : n ≤ 2048 → p.given ≡ 0 → step_of P s n p ≡ first_call P s n
  unfolding step_of
  next-first h e = met _ _ (le-leb _ _ h) ∙ simp (eq-eqb _ _ e)

  pub next-later : n ≤ 2048 → (p.given ≡ 0 → ⊥) → step_of P s n p ≡ later_call P s n p
  unfolding step_of
  next-later h e = met _ _ (le-leb _ _ h) ∙ simp (ne_eqb _ _ e)

-- ---- what the code's test for a place past 64 bits means

over-law : (at k : ℕ) → at < 2 ^ 64 → ltb (2 ^ 64 - 1 - at) k ≡ leb (2 ^ 64) (at + k)
over-law at k h =
    ⊎_elim (λ (l : 2 ^ 64 - 1 - at < k). lt-ltb _ _ l ∙ sym (le-leb (2 ^ 64) (at + k) (omega arith)))
    (λ (l : k ≤ 2 ^ 64 - 1 - at). le-ltb _ _ l ∙ sym (lt-leb (2 ^ 64) (at + k) (omega arith)))
    (elim (dec_lt (2 ^ 64 - 1 - at) k) [ yes l ↦ inl l | no l ↦ inr (omega arith) ])

module _ (b w at : ℕ) where
  pub over_none : w ≤ 64 → at < 2 ^ 64 - 256 → false ≡ leb (2 ^ 64) (at + size_at 64 b w at)
  over_none hw h = sym (lt-leb (2 ^ 64) (at + size_at 64 b w at) (omega (arith, size-le 64 b w at hw)))

  module _ (e m : ℕ) (h : at < 2 ^ 64) (he : e ≡ field b at w) (hm : m ≡ marker w) where
    pub over-short : e < m → ltb (2 ^ 64 - 1 - at) w ≡ leb (2 ^ 64) (at + size_at 64 b w at)
    over-short l = let k : e < marker w = rw (← hm) l in over-law at w h ∙ ap (λ (x : ℕ). leb (2 ^ 64) (at + x)) (sym (size-short 64 b w at 0 e he k))

    pub over-full : m ≤ e → ltb (2 ^ 64 - 1 - at) (w + 64) ≡ leb (2 ^ 64) (at + size_at 64 b w at)
    over-full l = let k : marker w ≤ e = rw (← hm) l in over-law at (w + 64) h ∙ ap (λ (x : ℕ). leb (2 ^ 64) (at + x)) (sym (size-full 64 b w at 0 e he k))

pub over_yes : (r : Bool) (at k : ℕ) → r ≡ leb (2 ^ 64) (at + k) → r ≡ true → 2 ^ 64 ≤ at + k
over_yes r at k e h = leb-true _ _ (sym e ∙ h)

pub over_no : (r : Bool) (at k : ℕ) → r ≡ leb (2 ^ 64) (at + k) → r ≡ false → at + k < 2 ^ 64
over_no r at k e h = leb-false _ _ (sym e ∙ h)
