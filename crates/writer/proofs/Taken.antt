-- A step that was taken: what had passed, and what it added. Assumes nothing.
use Prim.Native.Nat.{ℕ, ◌+◌, ◌≤◌, ◌<◌}
use mathlib.Core.Path.{◌≡◌, subst}
use mathlib.Core.Bool.{true, false, not}
use mathlib.Core.List.{List}
use lib.Dec.{leb, ltb}
use lib.ListN.{length}
use borrow.Author.Tests.{not-true, leb-true, ltb-true}
use Rattle.answer.specs.Table as table
use Rattle.answer.specs.Outcome.{ok}
use Rattle.answer.proofs.Outcomes.{ok-inj, need-ok, on-ok}
use Rattle.answer.proofs.Rules.{rule-ok}
use Rattle.answer.proofs.Both.{both_l}
use Rattle.frame.specs.Layout.{the_edition}
use Rattle.frame.specs.Whole.{end_block}
use Rattle.pageblock.specs.Body.{Handed, page_bytes}
use Rattle.pageblock.specs.Page.{page_rules}
use Rattle.pageblock.proofs.Blocks.{page-ok-is}
use Rattle.writer.specs.declared.Writer.{Writer}
use Rattle.writer.specs.State.{Added, state_with, put_at, open_rule, pages_rule, page_step_of, close_of}
use Rattle.writer.proofs.Ways.{added}

-- bytes that were put had room, and are what is added
put_is : (room from : ℕ) (bytes : List ℕ) (next : Writer) (a : Added) → put_at room from bytes next ≡ ok a → (from + length bytes ≤ room) × (added next from bytes ≡ a)
unfolding put_at
put_is room from bytes next a e =
    let b = need-ok (leb (from + length bytes) room) _ _ a e in
    (leb-true (from + length bytes) room b.0, ok-inj b.1)

open_is : (st : Writer) (u : Unit {0}) → open_rule st ≡ ok u → st.closed ≡ false
unfolding open_rule
open_is st u e = not-true st.closed (rule-ok (not st.closed) table.closed u e)

-- ---- a page

pub record PageTaken (st : Writer) (room : ℕ) (i : Handed) (a : Added) : Type 0 where
  pub opened : st.closed ≡ false
  pub below : st.pages < 1024
  pub passed : page_rules i ≡ ok tt
  pub fits : st.position + length (page_bytes the_edition i) ≤ room
  pub adds : added (state_with (st.position + length (page_bytes the_edition i)) (st.pages + 1) (st.shapes + length i.registers) false) st.position (page_bytes the_edition i) ≡ a

pub page-was : (st : Writer) (room : ℕ) (i : Handed) (a : Added) → page_step_of st room i ≡ ok a → PageTaken st room i a
unfolding page_step_of pages_rule
page-was st room i a e =
    let x = on-ok _ _ a e in
    let y = on-ok _ _ a x.2 in
    let z = on-ok _ _ a y.2 in
    let bytes = z.0 in
    let is = page-ok-is the_edition i bytes z.1 in
    let p = subst (λ (l : List ℕ). put_at room st.position l (state_with (st.position + length l) (st.pages + 1) (st.shapes + length i.registers) false) ≡ ok a) is.0 z.2 in
    let q = put_is room st.position (page_bytes the_edition i) _ a p in
    record {
      opened = open_is st x.0 x.1;
      below = ltb-true st.pages 1024 (both_l (ltb st.pages 1024) (leb st.shapes 262144) (rule-ok _ table.many y.0 y.1));
      passed = is.1;
      fits = q.0;
      adds = q.1;
    }

-- ---- the end

pub record CloseTaken (st : Writer) (room : ℕ) (a : Added) : Type 0 where
  pub opened : st.closed ≡ false
  pub fits : st.position + length (end_block st.pages st.shapes) ≤ room
  pub adds : added (state_with (st.position + length (end_block st.pages st.shapes)) st.pages st.shapes true) st.position (end_block st.pages st.shapes) ≡ a

pub close-was : (st : Writer) (room : ℕ) (a : Added) → close_of st room ≡ ok a → CloseTaken st room a
unfolding close_of
close-was st room a e =
    let x = on-ok _ _ a e in
    let y = on-ok _ _ a x.2 in
    let q = put_is room st.position (end_block st.pages st.shapes) _ a y.2 in
    record { opened = open_is st x.0 x.1; fits = q.0; adds = q.1 }
