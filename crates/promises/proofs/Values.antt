-- "The index of the value it was working on when it refused": what the index of a refused column read says of the column's bytes, for any input, and that
-- it is at most N; the same bound for one value a call, at any position. Nothing is assumed.
use Prim.Native.Nat.{ℕ, zero, suc, ◌+◌, ◌-◌, ◌*◌, ◌^◌, ◌≤◌, ◌<◌}
use mathlib.Core.Path.{◌≡◌, refl, ap, subst}
use mathlib.Core.Bool.{Bool, true, false}
use mathlib.Core.List.{List, []}
use mathlib.Core.Logic.{inl, inr, ⊎_elim}
use native.Mathlib.Decide.{dec_lt}
use native.Mathlib.Omega.{arith}
use borrow.Author.Tests.{leb-true, leb-false, ltb-false, eqb-true, eqb-false}
use lib.Dec.{leb, ltb, eqb}
use lib.ListN.{length, get_or}
use Rattle.answer.specs.Table as Table
use Rattle.answer.specs.declared.Refusal.{Refusal}
use Rattle.answer.specs.Refusal.{because, at_value}
use Rattle.answer.specs.Outcome.{Out, ok}
use Rattle.le.specs.Number.{number}
use Rattle.entry.specs.Entry.{after}
use Rattle.column.specs.Column.{whole}
use Rattle.column.specs.Read.{end_of, entries_within, held_of, end_rules, some_of, decode_of, read_of}
use Rattle.column.specs.declared.Position.{Position}
use Rattle.column.proofs.Holding.{within-is, held_none, held-some}
use Rattle.step.specs.Step.{end, coming, first_call, later_call, step_of}
use Rattle.step.proofs.Calls.{coming-next, coming-none}
use Rattle.search.specs.Listed.{listed}
use Rattle.promises.specs.Refusing.{Refuses}
use Rattle.promises.specs.Values.{end_at, Indexed, no_value, too_wide, lacks_first, lacks_later, left_over, filled}
use Rattle.promises.proofs.Refusals.{ok-gives, asked-gives, need-gives, test-gives, so-gives}

-- ---- how many values are held

-- i values of n are there in full; where there are more the next one is not
pub record Held (P : ℕ) (s : List ℕ) (n i : ℕ) : Type 0 where
  pub most : i ≤ n
  pub fits : 0 < i → end_of P s i ≤ 8 * length s
  pub lacks : i < n → 8 * length s < end_of P s (suc i)

pub held-is : (P : ℕ) (s : List ℕ) (n : ℕ) → 0 < n → Held P s n (held_of P s n)
unfolding end_of after
held-is P s n h = go (leb (8 + P) (8 * length s)) refl
  where
    later : (j : ℕ) → held_of P s n ≡ suc j → j ≤ n - 1 → after P (number s) (get_or s 0 0) j (8 + P) ≤ 8 * length s
        → (j < n - 1 → 8 * length s < after P (number s) (get_or s 0 0) (suc j) (8 + P)) → Held P s n (held_of P s n)
    later j e m f l =
        let first : suc j - 1 ≡ j = omega arith in
        let next : suc (suc j) - 1 ≡ suc j = omega arith in
        rw e
        (record {
          most = omega (arith, m, h);
          fits = λ z. rw first f;
          lacks = λ q. rw next (l (omega (arith, q)));
        })

    go : (t : Bool) → leb (8 + P) (8 * length s) ≡ t → Held P s n (held_of P s n)
    go true e =
        let l : 8 + P ≤ 8 * length s = leb-true (8 + P) (8 * length s) e in
        let k = within-is P (number s) (get_or s 0 0) (8 * length s) (n - 1) (8 + P) l in
        later (entries_within P (number s) (get_or s 0 0) (8 * length s) (n - 1) (8 + P)) (held-some P s n l) k.most k.fits k.lacks
    go false e =
        let l : 8 * length s < 8 + P = leb-false (8 + P) (8 * length s) e in
        rw (held_none P s n l)
        (record {
          most = omega arith;
          fits = λ q. absurd (omega (arith, q));
          lacks = λ q. l;
        })

-- ---- the column read

some_end : (P : ℕ) (s : List ℕ) (n : ℕ) → 0 < n → end_at P s n ≡ end_of P s n
some_end P s zero h = absurd (omega arith)
some_end P s (suc n) h = refl

module _ (P : ℕ) (s : List ℕ) (n : ℕ) where
  -- the end, at the place where all n values end
  ending-indexed : (e : ℕ) (o : Out (List ℕ)) → end_at P s n ≡ e → e ≤ 8 * length s → Refuses (Indexed P s n) o → Refuses (Indexed P s n) (end_rules s n e o)
  unfolding end_rules
  ending-indexed e o same h g =
      asked-gives _ (leb (length s) (whole e)) _ _
      (λ t.
      let l : whole e < length s = leb-false (length s) (whole e) t in
      left_over refl refl (rw same h) (rw same l))
      (λ t. asked-gives _ (ltb (number s) (2 ^ e)) _ _
      (λ u.
      let l : length s ≤ whole e = leb-true (length s) (whole e) t in
      let k : whole e ≡ length s = omega (arith, l, h) in
      filled refl refl (rw same k) (rw same (ltb-false _ _ u)))
      (λ u. g))

  module _ (h : 0 < n) where
    end-some : end_at P s n ≡ end_of P s n
    end-some = some_end P s n h

    -- bits are lacking: at the value that is not held
    few-indexed : 8 * length s < end_of P s n → Indexed P s n (at_value (held_of P s n) (because Table.bits))
    few-indexed l = go (held_of P s n) (held-is P s n h)
      where
        go : (i : ℕ) → Held P s n i → Indexed P s n (at_value i (because Table.bits))
        go zero k = lacks_first refl refl h (k.lacks h)
        go (suc i) k =
            let last : suc i ≡ n → ⊥ = λ (z : suc i ≡ n). omega (arith, l, k.fits (omega arith), ap (end_of P s) z) in
            let below : suc i < n = below_last (suc i) k.most last in
            lacks_later refl (omega arith) below (k.fits (omega arith)) (k.lacks below)
          where
            below_last : (j : ℕ) → j ≤ n → (j ≡ n → ⊥) → j < n
            below_last j m d = elim (dec_lt j n) [ yes q ↦ q | no q ↦ absurd (d (omega (arith, q, m))) ]

    some-indexed : Refuses (Indexed P s n) (some_of P s n)
    unfolding some_of
    some-indexed =
        asked-gives _ (leb 1 (length s)) _ _
        (λ t. lacks_first refl refl h (omega (arith, leb-false 1 (length s) t, first-end)))
        (λ t. asked-gives _ (leb (get_or s 0 0) P) _ _
        (λ u. too_wide refl refl (leb-false (get_or s 0 0) P u))
        (λ u. asked-gives _ (leb (end_of P s n) (8 * length s)) _ _
        (λ v. few-indexed (leb-false (end_of P s n) (8 * length s) v))
        (λ v. ending-indexed (end_of P s n) _ end-some (leb-true (end_of P s n) (8 * length s) v) (ok-gives _ _))))
      where
        first-end : end_at P s 1 ≡ 8 + P
        first-end = unfold end_of after in refl

  pub decode-indexed : Refuses (Indexed P s n) (decode_of P s n)
  unfolding decode_of
  decode-indexed =
      test-gives _ (eqb n 0) _ _
      (λ t. let z : n ≡ 0 = eqb-true n 0 t in none-indexed z)
      (λ t. some-indexed (let z : n ≡ 0 → ⊥ = eqb-false n 0 t in omega (arith, z)))
    where
      none-indexed : n ≡ 0 → Refuses {A = List ℕ} (Indexed P s n) (end_rules s 0 0 (ok []))
      none-indexed z =
          subst (λ (k : ℕ). Refuses {A = List ℕ} (Indexed P s n) (end_rules s k 0 (ok []))) z
          (ending-indexed 0 (ok []) (ap (λ (k : ℕ). end_at P s k) z) (omega arith) (ok-gives _ _))

  -- whatever the room
  pub read-indexed : (size : ℕ) → Refuses (Indexed P s n) (read_of P s n size)
  unfolding read_of listed
  read-indexed size = need-gives _ _ _ _ (no_value refl refl) (need-gives _ _ _ _ (no_value refl refl) decode-indexed)

  -- the index is at most N
  pub indexed-most : (w : Refusal) → Indexed P s n w → w.index ≤ n
  indexed-most w (no_value e i) = omega (arith, i)
  indexed-most w (too_wide e i l) = omega (arith, i)
  indexed-most w (lacks_first e i h l) = omega (arith, i)
  indexed-most w (lacks_later e h l a b) = omega (arith, l)
  indexed-most w (left_over e i a b) = omega (arith, i)
  indexed-most w (filled e i a b) = omega (arith, i)

  pub read-index-most : (size : ℕ) → Refuses (λ w. w.index ≤ n) (read_of P s n size)
  read-index-most size = so-gives _ _ (read_of P s n size) (λ w e k. indexed-most w k) (read-indexed size)

-- ---- one value a call, at any position

coming-most : (n given : ℕ) → coming n given ≤ n
coming-most n given =
    ⊎_elim (λ (l : given < n). omega (arith, coming-next n given l)) (λ (l : n ≤ given). omega (arith, coming-none n given l))
    (elim (dec_lt given n) [ yes l ↦ inl l | no l ↦ inr (omega arith) ])

module _ (P : ℕ) (s : List ℕ) (n : ℕ) where
  ending-most : {A : Type 0} (e : ℕ) (a : A) → Refuses (λ w. w.index ≤ n) (end_rules s n e (ok a))
  unfolding end_rules
  ending-most e a = need-gives _ _ _ _ (omega arith) (need-gives _ _ _ _ (omega arith) (ok-gives _ _))

  first-most : Refuses (λ w. w.index ≤ n) (first_call P s n)
  unfolding first_call
  first-most =
      test-gives _ (eqb n 0) _ _
      (λ t. let z : n ≡ 0 = eqb-true n 0 t in subst (λ (k : ℕ). Refuses (λ w. w.index ≤ n) (end_rules s k 0 (ok end))) z (ending-most 0 end))
      (λ t. need-gives _ _ _ _ (omega arith) (need-gives _ _ _ _ (omega arith) (need-gives _ _ _ _ (omega arith) (ok-gives _ _))))

  later-most : (p : Position) → Refuses (λ w. w.index ≤ n) (later_call P s n p)
  unfolding later_call
  later-most p =
      need-gives _ _ _ _ (omega arith)
      (need-gives _ _ _ _ (coming-most n p.given)
      (test-gives _ (leb n p.given) _ _
      (λ t. ending-most p.at end)
      (λ t. let l : p.given < n = leb-false n p.given t in need-gives _ _ _ _ (omega (arith, l)) (need-gives _ _ _ _ (omega (arith, l)) (ok-gives _ _)))))

  pub step-index-most : (p : Position) → Refuses (λ w. w.index ≤ n) (step_of P s n p)
  unfolding step_of
  step-index-most p = need-gives _ _ _ _ (omega arith) (test-gives _ (eqb p.given 0) _ _ (λ t. first-most) (λ t. later-most p))
