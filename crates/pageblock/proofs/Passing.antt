-- The rules of a page that is handed in, one law for each way through, and what has passed where they let pass. Assumes nothing.
use mathlib.Core.Path.{◌≡◌, sym, ◌∙◌}
use mathlib.Core.Bool.{Bool, true, false, ◌&&◌}
use lib.Dec.{eqb}
use lib.ListN.{length}
use borrow.Author.Tests.{eqb-true, eq-eqb, ne_eqb}
use Rattle.answer.specs.Table as table
use Rattle.answer.specs.Refusal.{because}
use Rattle.answer.specs.declared.Refusal.{Refusal}
use Rattle.answer.specs.Outcome.{ok, on, refused}
use Rattle.answer.proofs.Outcomes.{on-ok}
use Rattle.answer.proofs.Rules.{rule-holds, rule-fails, rule-ok}
use Rattle.answer.proofs.Both.{both_l, both_r}
use Rattle.types.specs.Parts.{parts_rule}
use Rattle.extent.specs.Rank.{all_finite}
use Rattle.shape.specs.Rules.{finite_rule, outline_rules}
use Rattle.frame.specs.Head.{counts_ok}
use Rattle.frame.proofs.Counts.{Limits, counts-limits}
use Rattle.answer.proofs.Orders.{on-refused, on_value, then-refused, then-holds}
use Rattle.pageblock.specs.Body.{Handed}
use Rattle.pageblock.specs.Page.{slices_agree, counts_hold, counts_rule, outlines, page_rules}
use Rattle.pageblock.specs.Ready.{Even, FiniteVertices}

-- ---- 6

module _ (i : Handed) where
  pub types-uneven : (length i.types ≡ length i.registers → ⊥) → false ≡ counts_hold i
  unfolding counts_hold slices_agree
  types-uneven h = rw (ne_eqb (length i.types) (length i.registers) h)

  module _ (t : length i.types ≡ length i.registers) where
    pub counts-uneven : (length i.counts ≡ length i.registers → ⊥) → false ≡ counts_hold i
    unfolding counts_hold slices_agree
    counts-uneven h = rw (eq-eqb (length i.types) (length i.registers) t, ne_eqb (length i.counts) (length i.registers) h)

    module _ (c : length i.counts ≡ length i.registers) where
      pub vertices-uneven : (length i.ys ≡ length i.xs → ⊥) → false ≡ counts_hold i
      unfolding counts_hold slices_agree
      vertices-uneven h =
          rw (
            eq-eqb (length i.types) (length i.registers) t,
            eq-eqb (length i.counts) (length i.registers) c,
            ne_eqb (length i.ys) (length i.xs) h,
          )

      pub all-even : (r : Bool) → length i.ys ≡ length i.xs → r ≡ counts_ok (length i.registers) (length i.xs) (length i.lens) → r ≡ counts_hold i
      unfolding counts_hold slices_agree
      all-even r y e =
          rw (
            eq-eqb (length i.types) (length i.registers) t,
            eq-eqb (length i.counts) (length i.registers) c,
            eq-eqb (length i.ys) (length i.xs) y,
          ) e

pub holds-even : (i : Handed) → counts_hold i ≡ true → Even i
unfolding counts_hold slices_agree
holds-even i e =
    let t = eqb (length i.types) (length i.registers) in
    let c = eqb (length i.counts) (length i.registers) in
    let y = eqb (length i.ys) (length i.xs) in
    let k = counts_ok (length i.registers) (length i.xs) (length i.lens) in
    let s = both_l (t && c && y) k e in
    let tc = both_l (t && c) y s in
    record {
      types_even = eqb-true _ _ (both_l t c tc);
      counts_even = eqb-true _ _ (both_r t c tc);
      vertices_even = eqb-true _ _ (both_r (t && c) y s);
      within = both_r (t && c && y) k e;
    }

pub even-limits : (i : Handed) → Even i → Limits (length i.registers) (length i.xs) (length i.lens)
even-limits i e = counts-limits (length i.registers) (length i.xs) (length i.lens) e.within

-- ---- the rules in order

module _ (i : Handed) where
  pub rules-counts : counts_hold i ≡ false → refused (because table.counts) ≡ page_rules i
  unfolding page_rules counts_rule
  rules-counts e = sym (on-refused _ _ (because table.counts) (rule-fails (counts_hold i) table.counts e))

  module _ (c : counts_hold i ≡ true) where
    rules-rest : page_rules i ≡ on (parts_rule i.types i.counts i.lens (length i.xs)) (λ (u : Unit {0}). outline_rules (outlines i) i.xs i.ys)
    unfolding page_rules counts_rule
    rules-rest = on_value _ _ tt (rule-holds (counts_hold i) table.counts c)

    pub rules-parts : (w : Refusal) → refused w ≡ parts_rule i.types i.counts i.lens (length i.xs) → refused w ≡ page_rules i
    rules-parts w e = sym (rules-rest ∙ then-refused _ _ w e)

    pub rules-outlines : ok tt ≡ parts_rule i.types i.counts i.lens (length i.xs) → outline_rules (outlines i) i.xs i.ys ≡ page_rules i
    rules-outlines p = sym (rules-rest ∙ then-holds _ _ p)

-- ---- what has passed

pub record Passed (i : Handed) : Type 0 where
  pub even : Even i
  pub parts : parts_rule i.types i.counts i.lens (length i.xs) ≡ ok tt
  pub outlined : outline_rules (outlines i) i.xs i.ys ≡ ok tt

pub rules-passed : (i : Handed) (u : Unit {0}) → page_rules i ≡ ok u → Passed i
unfolding page_rules counts_rule
rules-passed i u e =
    let a = on-ok _ _ _ e in
    let b = on-ok _ _ _ a.2 in
    record {
      even = holds-even i (rule-ok (counts_hold i) table.counts a.0 a.1);
      parts = b.1;
      outlined = b.2;
    }

pub passed-sound : (i : Handed) → Passed i → FiniteVertices i.xs i.ys
unfolding outline_rules finite_rule
passed-sound i p =
    let a = on-ok _ _ _ p.outlined in
    let f = rule-ok (all_finite i.xs && all_finite i.ys) table.finite a.0 a.1 in
    record {
      same = p.even.vertices_even;
      few = (even-limits i p.even).vertices;
      finite_x = both_l (all_finite i.xs) (all_finite i.ys) f;
      finite_y = both_r (all_finite i.xs) (all_finite i.ys) f;
    }
