-- A word taken apart: bits 0 to 31, 32 to 39, 40 and 41, 42 to 53. What each call says is far below 2 ^ 32, so that nothing it says is taken for a
-- refusal. Assumes nothing.
use Prim.Native.Nat.{ℕ, ◌/◌, ◌%◌, ◌^◌, ◌≤◌, ◌<◌}
use mathlib.Core.Path.{◌≡◌, subst}
use mathlib.Core.List.{List, []}
use native.Mathlib.Omega.{arith}
use lib.Dec.{leb}
use lib.ListN.{length}
use borrow.Author.Tests.{leb-true}
use Rattle.answer.specs.declared.Refusal.{Refusal}
use Rattle.answer.specs.Outcome.{refused, ok}
use Rattle.answer.proofs.Outcomes.{ok-inj, need-ok, on-ok}
use Rattle.column.specs.Column.{encode}
use Rattle.column.specs.Write.{write_of}
use Rattle.column.specs.Read.{read_of}
use Rattle.column.proofs.Decoding.{scratch-ok}
use Rattle.column.proofs.Trips.{bytes_most}
use Rattle.query.specs.declared.ask.Ask.{Ask}
use Rattle.query.specs.Block.{ask_of}
use Rattle.frame.specs.declared.walk.Totals.{Totals}
use Rattle.file.specs.Check.{check_of}
use Rattle.file.proofs.Checks.{check-accepts}
use Rattle.search.specs.Search.{hits_of, search_of, count_of}
use Rattle.search.proofs.Rising.{rising-few}
use Rattle.search.proofs.Ordered.{frame-few, hits-within}
use Rattle.step.specs.Step.{ValueOrEnd, value, end}
use Rattle.shape.specs.Outline.{Shape}
use Rattle.fetch.specs.Fetch.{shape_in, Rooms}
use Rattle.viewer.specs.Word.{word_of}
use Rattle.viewer.specs.Calls.{search_call, gives}
use Rattle.viewer.specs.Fetch.{room_for_shape, fetch_call, vertices}
use Rattle.viewer.proofs.Sizes.{shape-few}

pub said-apart : (n : ℕ) → n < 2 ^ 32 → (word_of (ok n) / 2 ^ 32 ≡ 0) × (word_of (ok n) % 2 ^ 32 ≡ n)
unfolding word_of
said-apart n h = (omega arith, omega arith)

-- a refusal's parts fit their bits
pub record Fits (w : Refusal) : Type 0 where
  pub page : w.page < 2 ^ 32
  pub number : w.number < 2 ^ 8
  pub column : w.column < 2 ^ 2
  pub index : w.index < 2 ^ 12

-- and are found there again, with nothing above them
pub record Apart (w : Refusal) (word : ℕ) : Type 0 where
  pub page : word % 2 ^ 32 ≡ w.page
  pub number : word / 2 ^ 32 % 2 ^ 8 ≡ w.number
  pub column : word / 2 ^ 40 % 2 ^ 2 ≡ w.column
  pub index : word / 2 ^ 42 % 2 ^ 12 ≡ w.index
  pub above : word < 2 ^ 54

pub refused-apart : (w : Refusal) → Fits w → Apart w (word_of (refused w))
unfolding word_of
refused-apart w h = record {
  page = omega (arith, h.page, h.number, h.column, h.index);
  number = omega (arith, h.page, h.number, h.column, h.index);
  column = omega (arith, h.page, h.number, h.column, h.index);
  index = omega (arith, h.page, h.number, h.column, h.index);
  above = omega (arith, h.page, h.number, h.column, h.index);
}

-- ---- what the calls say

pub check-fits : (s : List ℕ) (t : Totals) → check_of s ≡ ok t → t.shapes ≤ 262144
check-fits s t e = let a = check-accepts s t e in subst (λ (t : Totals). t.shapes ≤ 262144) a.4 (frame-few s a.0 a.2)

hits-fit : (a : Ask) (s l : List ℕ) → hits_of a s ≡ ok l → length l ≤ 262144
hits-fit a s l e = let r = rising-few 0 l (omega arith) (hits-within a s l e) in omega (arith, r)

pub count_fits : (a : Ask) (s : List ℕ) (n : ℕ) → count_of a s ≡ ok n → n ≤ 262144
unfolding count_of
count_fits a s n e = let x = on-ok (hits_of a s) _ n e in subst (λ (k : ℕ). k ≤ 262144) (ok-inj x.2) (hits-fit a s x.0 x.1)

search-few : (a : Ask) (s : List ℕ) (room : ℕ) (l : List ℕ) → search_of a s room ≡ ok l → length l ≤ 262144
unfolding search_of
search-few a s room l e =
    let x = on-ok (hits_of a s) _ l e in
    let y = need-ok (leb (length x.0) room) _ _ l x.2 in
    subst (λ (k : List ℕ). length k ≤ 262144) (ok-inj y.1) (hits-fit a s x.0 x.1)

pub search-fits : (query s : List ℕ) (room : ℕ) (l : List ℕ) → search_call query s room ≡ ok l → length l ≤ 262144
unfolding search_call
search-fits query s room l e = let x = on-ok (ask_of query) _ l e in search-few x.0 s room l x.2

pub write-fits : (vs : List ℕ) (size : ℕ) (l : List ℕ) → write_of 64 vs size ≡ ok l → length l ≤ 16385
unfolding write_of
write-fits vs size l e =
    let x = need-ok (leb (length vs) 2048) _ _ l e in
    let y = need-ok (leb (length (encode 64 vs)) size) _ _ l x.1 in
    let h = leb-true (length vs) 2048 x.0 in
    let b = bytes_most vs in
    subst (λ (k : List ℕ). length k ≤ 16385) (ok-inj y.1) (omega (arith, h, b))

pub read_fits : (P : ℕ) (s : List ℕ) (n size : ℕ) (l : List ℕ) → read_of P s n size ≡ ok l → length l ≤ 2048
unfolding read_of
read_fits P s n size l e =
    let x = need-ok (leb n 2048) _ _ l e in
    let y = need-ok (leb n size) _ _ l x.1 in
    let h = leb-true n 2048 x.0 in
    let d = (scratch-ok P s n [] l y.1).0 in
    omega (arith, h, d)

pub step_fits : (t : ValueOrEnd) → gives t ≤ 1
unfolding gives
step_fits (value v p) = omega arith
step_fits end = omega arith

pub fetch-fits : (s : List ℕ) (place about : ℕ) (r : Rooms) (sh : Shape) → fetch_call s place about r ≡ ok sh → vertices sh ≤ 2048
unfolding fetch_call vertices
fetch-fits s place about r sh e =
    let x = on-ok (shape_in s place) _ sh e in
    let y = need-ok (room_for_shape about r x.0) _ _ sh x.2 in
    subst (λ (k : Shape). length k.outline.xs ≤ 2048) (ok-inj y.1) (shape-few s place x.0 x.1)
