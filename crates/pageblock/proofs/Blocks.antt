-- What a page's block comes to, one law for each way. Assumes nothing.
use Prim.Native.Nat.{ℕ, ◌+◌, ◌≤◌, ◌<◌}
use mathlib.Core.Path.{◌≡◌, sym, ap, ◌∙◌}
use mathlib.Core.List.{List, ◌++◌}
use native.Mathlib.Omega.{arith}
use lib.ListN.{length, drop}
use lib.Seq.{sets, sets-eq}
use borrow.Author.Tests.{le-leb, lt-leb}
use Rattle.answer.specs.Table as table
use Rattle.answer.specs.Refusal.{because}
use Rattle.answer.specs.declared.Refusal.{Refusal}
use Rattle.answer.specs.Outcome.{refused, ok}
use Rattle.answer.proofs.Outcomes.{ok-inj, on-ok, met, unmet}
use Rattle.answer.proofs.Orders.{on-refused, on_value}
use Rattle.pageblock.specs.Body.{Handed, page_bytes}
use Rattle.pageblock.specs.Page.{page_rules, page_written, room_for, page_block_of}

module _ (ed : ℕ) (i : Handed) where
  pub page-refused : (w : Refusal) → page_rules i ≡ refused w → page_written ed i ≡ refused w
  unfolding page_written
  page-refused w e = on-refused _ _ w e

  pub page-ok : page_rules i ≡ ok tt → page_written ed i ≡ ok (page_bytes ed i)
  unfolding page_written
  page-ok e = on_value _ _ tt e

  -- where it is a value, that is the page's bytes, and the rules have passed
  pub page-ok-is : (bytes : List ℕ) → page_written ed i ≡ ok bytes → (bytes ≡ page_bytes ed i) × (page_rules i ≡ ok tt)
  unfolding page_written
  page-ok-is bytes e =
      let a = on-ok _ _ _ e in
      (sym (ok-inj a.2), a.1)

  -- the same page has the same bytes, whoever writes it
  pub page-one : (b c : List ℕ) → page_written ed i ≡ ok b → page_written ed i ≡ ok c → b ≡ c
  page-one b c e f = (page-ok-is b e).0 ∙ sym (page-ok-is c f).0

  module _ (room : ℕ) where
    pub block_refused : (w : Refusal) → page_rules i ≡ refused w → page_block_of ed room i ≡ refused w
    unfolding page_block_of
    block_refused w e = on-refused _ _ w (page-refused w e)

    module _ (e : page_rules i ≡ ok tt) where
      pub block_room : room < length (page_bytes ed i) → page_block_of ed room i ≡ refused (because table.room)
      unfolding page_block_of room_for
      block_room h = on_value _ _ (page_bytes ed i) (page-ok e) ∙ unmet (because table.room) _ (lt-leb (length (page_bytes ed i)) room h)

      pub block-ok : length (page_bytes ed i) ≤ room → page_block_of ed room i ≡ ok (page_bytes ed i)
      unfolding page_block_of room_for
      block-ok h = on_value _ _ (page_bytes ed i) (page-ok e) ∙ met (because table.room) _ (le-leb (length (page_bytes ed i)) room h)

-- bytes put from the first on stand at the start
pub put-start : (l d e : List ℕ) (n : ℕ) → n ≡ length l → n ≤ length d → e ≡ sets d 0 l → e ≡ l ++ drop n d
put-start l d e n h k q =
    let z : 0 + length l ≡ n = omega arith in
    q ∙ sets-eq l d 0 (omega arith) ∙ ap (λ (m : ℕ). l ++ drop m d) z
