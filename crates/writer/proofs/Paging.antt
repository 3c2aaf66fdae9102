-- A page step and the block that it puts: what the call over the buffer's rest says is what the step comes to. Assumes nothing.
use Prim.Native.Nat.{ℕ, ◌+◌, ◌-◌, ◌≤◌, ◌<◌}
use mathlib.Core.Path.{◌≡◌, refl, sym, ap, ap₂, subst, ◌∙◌}
use mathlib.Core.Bool.{Bool, true, false, cond}
use mathlib.Core.List.{List, [], ◌++◌, append_assoc, append-nil}
use native.Mathlib.Omega.{arith}
use lib.Dec.{leb}
use lib.ListN.{length, take, drop, length-drop, drop_of_length-le}
use lib.Seq.{sets, sets-eq, take_all, drop-drop}
use borrow.Author.Tests.{leb-true, leb-false, le-leb, lt-leb}
use borrow.Rule.Slice.PartMut.{put_mid, put_same, mid_len}
use Rattle.answer.specs.declared.Refusal.{Refusal}
use Rattle.answer.specs.Table as table
use Rattle.answer.specs.Refusal.{because}
use Rattle.answer.specs.Outcome.{Out, refused, ok, need, on, Fills}
use Rattle.answer.proofs.Outcomes.{ok-inj, need-ok, on-ok, filled-refused, filled-start}
use Rattle.answer.proofs.Orders.{on-refused, on_value}
use Rattle.frame.specs.Layout.{the_edition}
use Rattle.pageblock.specs.Body.{Handed}
use Rattle.pageblock.specs.Page.{page_written, room_for, page_block_of}
use Rattle.pageblock.proofs.Passing.{even-limits, rules-passed}
use Rattle.pageblock.proofs.Blocks.{page-ok-is}
use Rattle.pageblock.proofs.Sizes.{length-page}
use Rattle.writer.specs.declared.Writer.{Writer}
use Rattle.writer.specs.State.{state_with, put_at, page_step_of, start_of, Steps}
use Rattle.writer.proofs.Stepping.{steps-refused, steps-ok}
use Rattle.writer.proofs.Ways.{added, page-rest}

-- ---- the buffer's rest

-- the start is inside, and is the position where that is
pub start-inside : (position room : ℕ) → start_of position room ≤ room
unfolding start_of
start-inside position room = go (leb position room) refl
  where
    go : (t : Bool) → leb position room ≡ t → cond t position room ≤ room
    go true e = leb-true position room e
    go false e = omega arith

pub start-at : (position room : ℕ) → position ≤ room → start_of position room ≡ position
unfolding start_of
start-at position room h = rw (le-leb position room h)

pub start-past : (position room : ℕ) → room < position → start_of position room ≡ room
unfolding start_of
start-past position room h = rw (lt-leb position room h)

-- some bytes fit there exactly where they fit from the position on
fits-same : (position room len : ℕ) → 0 < len → leb len (room - start_of position room) ≡ leb (position + len) room
fits-same position room len h = go (leb position room) refl
  where
    same : (a b c e : ℕ) → (a ≤ b → c ≤ e) → (b < a → e < c) → leb a b ≡ leb c e
    same a b c e f g = pick (leb a b) refl
      where
        pick : (t : Bool) → leb a b ≡ t → leb a b ≡ leb c e
        pick true q = q ∙ sym (le-leb c e (f (leb-true a b q)))
        pick false q = q ∙ sym (lt-leb c e (g (leb-false a b q)))

    go : (t : Bool) → leb position room ≡ t → leb len (room - start_of position room) ≡ leb (position + len) room
    go true e =
        let l = leb-true position room e in
        ap (λ (s : ℕ). leb len (room - s)) (start-at position room l) ∙ same len (room - position) (position + len) room (λ a. omega arith) (λ a. omega arith)
    go false e =
        let l = leb-false position room e in
        ap (λ (s : ℕ). leb len (room - s)) (start-past position room l) ∙ same len (room - room) (position + len) room (λ a. omega arith) (λ a. omega arith)

-- bytes put at the start of a buffer's rest are put from there on
pub rest_put : (d bytes e : List ℕ) (at n : ℕ) → n ≡ length bytes → at + n ≤ length d → e ≡ bytes ++ drop n (take (length d - at) (drop at d))
    → put_mid at (length d - at) d e ≡ sets d at bytes
rest_put d bytes e at n h k q =
    let l = length-drop at d in
    let p : take (length d - at) (drop at d) ≡ drop at d = take_all (length d - at) (drop at d) (omega (arith, l)) in
    let z : drop (length d - at) (drop at d) ≡ [] = drop_of_length-le (drop at d) {i = length d - at} (omega (arith, l)) in
    let r : e ≡ bytes ++ drop (at + length bytes) d = q ∙ ap (λ (x : List ℕ). bytes ++ drop n x) p ∙ ap (λ (x : List ℕ). bytes ++ x) (drop-drop n at d ∙ ap (λ (m : ℕ). drop (at + m) d) h) in
    ap₂ (λ (x y : List ℕ). take at d ++ (x ++ y)) r z
    ∙ ap (λ (x : List ℕ). take at d ++ x) (append-nil (bytes ++ drop (at + length bytes) d))
    ∙ sym (append_assoc (take at d) bytes (drop (at + length bytes) d))
    ∙ sym (sets-eq bytes d at (omega arith))

-- ---- the step, by the block for the rest

-- a page that passes is no empty block
page-some : (i : Handed) (bytes : List ℕ) → page_written the_edition i ≡ ok bytes → 0 < length bytes
page-some i bytes e = omega (arith, ap length (page-ok-is the_edition i bytes e).0, length-page the_edition i)

block-page : (room : ℕ) (i : Handed) (bytes : List ℕ) → page_block_of the_edition room i ≡ ok bytes → (page_written the_edition i ≡ ok bytes) × (length bytes ≤ room)
unfolding page_block_of room_for
block-page room i bytes e =
    let a = on-ok _ _ _ e in
    let b = need-ok (leb (length a.0) room) _ _ bytes a.2 in
    let q : a.0 ≡ bytes = ok-inj b.1 in
    (a.1 ∙ ap ok q, subst (λ (l : List ℕ). length l ≤ room) q (leb-true (length a.0) room b.0))

-- the same outcome, whichever way the room is tested
put_on : (o : Out (List ℕ)) (rest room at : ℕ) (next : List ℕ → Writer) → ((bytes : List ℕ) → o ≡ ok bytes → leb (length bytes) rest ≡ leb (at + length bytes) room)
    → on o (λ (bytes : List ℕ). put_at room at bytes (next bytes)) ≡ on (on o (room_for rest)) (λ (bytes : List ℕ). ok (added (next bytes) at bytes))
unfolding on put_at room_for need
put_on (refused w) rest room at next f = refl
put_on (ok bytes) rest room at next f = rw (f bytes refl) (go (leb (at + length bytes) room))
  where
    go : (t : Bool) → need t (because table.room) (ok (added (next bytes) at bytes)) ≡ on (need t (because table.room) (ok bytes)) (λ (b : List ℕ). ok (added (next b) at b))
    go true = refl
    go false = refl

module _ (st : Writer) (d : List ℕ) (i : Handed) (from : ℕ) (ef : from ≡ start_of st.position (length d)) (o : st.closed ≡ false) (h : st.pages < 1024)
    (k : st.shapes ≤ 262144) where
  abbrev rest : List ℕ
  rest = take (length d - from) (drop from d)

  length_rest : length (take (length d - from) (drop from d)) ≡ length d - start_of st.position (length d)
  length_rest = mid_len from (length d) d (omega arith) ∙ ap (λ (s : ℕ). length d - s) ef

  next : List ℕ → Writer
  next bytes = state_with (st.position + length bytes) (st.pages + 1) (st.shapes + length i.registers) false

  by-block : page_step_of st (length d) i ≡ on (page_block_of the_edition (length rest) i) (λ (bytes : List ℕ). ok (added (next bytes) st.position bytes))
  unfolding page_block_of next
  by-block =
      page-rest st (length d) i o h k
      ∙ put_on (page_written the_edition i) (length rest) (length d) st.position next
      (λ (bytes : List ℕ) (e : page_written the_edition i ≡ ok bytes). ap (leb (length bytes)) length_rest ∙ fits-same st.position (length d) (length bytes) (page-some i bytes e))

  -- what the block refuses the step refuses
  pub page-refused : (w : Refusal) (left : List ℕ) → Fills (page_block_of the_edition (length (take (length d - from) (drop from d))) i) (take (length d - from) (drop from d)) (refused w) left
      → Steps (page_step_of st (length d) i) st d (record { writer = st; verdict = refused w }) (put_mid from (length d - from) d left)
  page-refused w left f =
      let p = filled-refused (page_block_of the_edition (length rest) i) rest w left f in
      let q : put_mid from (length d - from) d left ≡ d = ap (put_mid from (length d - from) d) p.1 ∙ put_same from (length d - from) d in
      subst (λ (e : List ℕ). Steps (page_step_of st (length d) i) st d (record { writer = st; verdict = refused w }) e) (sym q)
      (steps-refused w (by-block ∙ on-refused _ _ w p.0))

  module _ (n : ℕ) (left : List ℕ) (f : Fills (page_block_of the_edition (length (take (length d - from) (drop from d))) i) (take (length d - from) (drop from d)) (ok n) left) where
    -- a block that was put fits behind the position
    pub page-fits : (st.position + n ≤ length d) × (length i.registers ≤ 256)
    page-fits =
        let p = filled-start (page_block_of the_edition (length rest) i) rest n left f in
        let b = block-page (length rest) i p.0 p.1 in
        let some = page-some i p.0 b.0 in
        let m : length p.0 ≤ length d - start_of st.position (length d) = omega (arith, b.1, length_rest) in
        let l : leb (st.position + length p.0) (length d) ≡ true =
        sym (fits-same st.position (length d) (length p.0) some) ∙ le-leb (length p.0) (length d - start_of st.position (length d)) m in
        (omega (arith, leb-true (st.position + length p.0) (length d) l, p.2), (even-limits i (rules-passed i tt (page-ok-is the_edition i p.0 b.0).1).even).few)

    -- and the step is taken
    pub page-taken : Steps (page_step_of st (length d) i) st d
        (record { writer = state_with (st.position + n) (st.pages + 1) (st.shapes + length i.registers) false; verdict = ok tt })
        (put_mid from (length d - from) d left)
    unfolding next
    page-taken =
        let p = filled-start (page_block_of the_edition (length rest) i) rest n left f in
        let fit = page-fits.0 in
        let s : from ≡ st.position = ef ∙ start-at st.position (length d) (omega arith) in
        let q : put_mid from (length d - from) d left ≡ sets d st.position p.0 =
        rest_put d p.0 left from n p.2 (omega (arith, s, fit)) p.3 ∙ ap (λ (m : ℕ). sets d m p.0) s in
        subst (λ (m : ℕ). Steps (page_step_of st (length d) i) st d (record { writer = state_with (st.position + m) (st.pages + 1) (st.shapes + length i.registers) false; verdict = ok tt }) (put_mid from (length d - from) d left)) (sym p.2)
        (steps-ok (added (next p.0) st.position p.0) _ (by-block ∙ on_value _ _ p.0 p.1) q)
