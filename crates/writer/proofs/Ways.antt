-- The ways through the three steps, a law for each. Assumes nothing.
use Prim.Native.Nat.{ℕ, ◌+◌, ◌≤◌, ◌<◌}
use mathlib.Core.Path.{◌≡◌, ap, ◌∙◌}
use mathlib.Core.Bool.{true, false, not}
use mathlib.Core.List.{List}
use native.Mathlib.Omega.{arith}
use lib.ListN.{length}
use borrow.Author.Tests.{le-leb, lt-leb, lt-ltb, le-ltb}
use Rattle.answer.specs.Table as table
use Rattle.answer.specs.Refusal.{because}
use Rattle.answer.specs.Outcome.{refused, ok, on}
use Rattle.answer.proofs.Outcomes.{met, unmet}
use Rattle.answer.proofs.Rules.{rule-holds, rule-fails}
use Rattle.frame.specs.Layout.{the_edition}
use Rattle.frame.specs.Whole.{end_block}
use Rattle.answer.proofs.Orders.{on-refused, on_value}
use Rattle.pageblock.specs.Body.{Handed}
use Rattle.pageblock.specs.Page.{page_written}
use Rattle.writer.specs.declared.Writer.{Writer}
use Rattle.writer.specs.State.{Added, state_with, put_at, open_rule, first_block, open_of, pages_rule, page_step_of, totals_rule, close_of}
use Rattle.writer.proofs.Ends.{length-first, length-end}

abbrev pub added : Writer → ℕ → List ℕ → Added
added next from bytes = record { next = next; from = from; bytes = bytes }

-- ---- 2

module _ (room from : ℕ) (bytes : List ℕ) (next : Writer) where
  pub put-room : room < from + length bytes → put_at room from bytes next ≡ refused (because table.room)
  unfolding put_at
  put-room h = unmet (because table.room) _ (lt-leb (from + length bytes) room h)

  pub put-ok : from + length bytes ≤ room → put_at room from bytes next ≡ ok (added next from bytes)
  unfolding put_at
  put-ok h = met (because table.room) _ (le-leb (from + length bytes) room h)

-- ---- open

module _ (room : ℕ) where
  pub open-room : room < 8 → open_of room ≡ refused (because table.room)
  unfolding open_of
  open-room h = put-room room 0 first_block _ (omega (arith, length-first))

  pub open-ok : 8 ≤ room → open_of room ≡ ok (added (state_with 8 0 0 false) 0 first_block)
  unfolding open_of
  open-ok h = put-ok room 0 first_block _ (omega (arith, length-first)) ∙ ap (λ (n : ℕ). ok (added (state_with n 0 0 false) 0 first_block)) length-first

-- ---- 18, before a page and before the end

opened : (st : Writer) → st.closed ≡ false → open_rule st ≡ ok tt
unfolding open_rule
opened st e = rule-holds (not st.closed) table.closed (ap not e)

closed : (st : Writer) → st.closed ≡ true → open_rule st ≡ refused (because table.closed)
unfolding open_rule
closed st e = rule-fails (not st.closed) table.closed (ap not e)

-- ---- page

module _ (st : Writer) (room : ℕ) (i : Handed) where
  pub page-closed : st.closed ≡ true → page_step_of st room i ≡ refused (because table.closed)
  unfolding page_step_of
  page-closed e = on-refused _ _ (because table.closed) (closed st e)

  module _ (o : st.closed ≡ false) where
    pub page-many : 1024 ≤ st.pages → page_step_of st room i ≡ refused (because table.many)
    unfolding page_step_of pages_rule
    page-many h = on_value _ _ tt (opened st o) ∙ on-refused _ _ (because table.many) (rule-fails _ table.many (rw (le-ltb st.pages 1024 h)))

    module _ (h : st.pages < 1024) where
      pub page-shapes : 262144 < st.shapes → page_step_of st room i ≡ refused (because table.many)
      unfolding page_step_of pages_rule
      page-shapes k = on_value _ _ tt (opened st o) ∙ on-refused _ _ (because table.many) (rule-fails _ table.many (rw (lt-ltb st.pages 1024 h, lt-leb st.shapes 262144 k)))

      pub page-rest : st.shapes ≤ 262144 → page_step_of st room i
          ≡ on (page_written the_edition i) (λ (bytes : List ℕ). put_at room st.position bytes (state_with (st.position + length bytes) (st.pages + 1) (st.shapes + length i.registers) false))
      unfolding page_step_of pages_rule
      page-rest k = on_value _ _ tt (opened st o) ∙ on_value _ _ tt (rule-holds _ table.many (rw (lt-ltb st.pages 1024 h, le-leb st.shapes 262144 k)))

-- ---- close

module _ (st : Writer) (room : ℕ) where
  pub close-closed : st.closed ≡ true → close_of st room ≡ refused (because table.closed)
  unfolding close_of
  close-closed e = on-refused _ _ (because table.closed) (closed st e)

  module _ (o : st.closed ≡ false) where
    pub close-many : 1024 < st.pages → close_of st room ≡ refused (because table.many)
    unfolding close_of totals_rule
    close-many h = on_value _ _ tt (opened st o) ∙ on-refused _ _ (because table.many) (rule-fails _ table.many (rw (lt-leb st.pages 1024 h)))

    module _ (h : st.pages ≤ 1024) where
      pub close-shapes : 262144 < st.shapes → close_of st room ≡ refused (because table.many)
      unfolding close_of totals_rule
      close-shapes k = on_value _ _ tt (opened st o) ∙ on-refused _ _ (because table.many) (rule-fails _ table.many (rw (le-leb st.pages 1024 h, lt-leb st.shapes 262144 k)))

      module _ (k : st.shapes ≤ 262144) where
        close-rest : close_of st room
            ≡ put_at room st.position (end_block st.pages st.shapes) (state_with (st.position + length (end_block st.pages st.shapes)) st.pages st.shapes true)
        unfolding close_of totals_rule
        close-rest = on_value _ _ tt (opened st o) ∙ on_value _ _ tt (rule-holds _ table.many (rw (le-leb st.pages 1024 h, le-leb st.shapes 262144 k)))

        pub close-room : room < st.position + 14 → close_of st room ≡ refused (because table.room)
        close-room l = close-rest ∙ put-room room st.position _ _ (omega (arith, length-end st.pages st.shapes))

        pub close-ok : st.position + 14 ≤ room
            → close_of st room ≡ ok (added (state_with (st.position + 14) st.pages st.shapes true) st.position (end_block st.pages st.shapes))
        close-ok l =
            close-rest ∙ put-ok room st.position _ _ (omega (arith, length-end st.pages st.shapes))
            ∙ ap (λ (n : ℕ). ok (added (state_with (st.position + n) st.pages st.shapes true) st.position (end_block st.pages st.shapes))) (length-end st.pages st.shapes)
