-- The ten calls of the C face: of every refusal number, page, column and index fit the bits that the answer's word has for them, so that taken apart it gives
-- them back (viewer/Fitting: `refused-apart`). A call that reads one column names none. Nothing is assumed.
use Prim.Native.Nat.{ℕ, ◌≤◌, ◌<◌}
use mathlib.Core.Path.{◌≡◌, refl, sym, ap, ◌∙◌}
use mathlib.Core.Bool.{true}
use mathlib.Core.List.{List, [], ◌∷◌}
use native.Mathlib.Decide.{dec_le}
use native.Mathlib.Omega.{arith}
use borrow.Author.Tests.{ltb-true}
use lib.Dec.{ltb, eqb, leb}
use Rattle.answer.specs.Axis as Axis
use Rattle.answer.specs.Table as table
use Rattle.answer.specs.declared.Refusal.{Refusal}
use Rattle.answer.specs.Refusal.{because}
use Rattle.answer.specs.All.{all_of}
use Rattle.answer.specs.Outcome.{Out, refused, ok, on}
use Rattle.answer.proofs.Outcomes.{refused-inj}
use Rattle.le.specs.Number.{Bytes}
use Rattle.column.specs.Write.{write_of}
use Rattle.column.specs.Read.{end_rules, read_of}
use Rattle.column.specs.declared.Position.{Position}
use Rattle.column.proofs.Decoding.{read-many}
use Rattle.step.specs.Step.{first_call, later_call, step_of}
use Rattle.step.proofs.Calls.{next-many}
use Rattle.query.specs.Block.{ask_of}
use Rattle.pageblock.specs.Body.{Handed}
use Rattle.file.specs.Check.{check_of}
use Rattle.search.specs.Listed.{listed}
use Rattle.search.specs.Search.{count_of}
use Rattle.fetch.specs.Fetch.{Rooms}
use Rattle.viewer.specs.Four.{four_rule, position_of}
use Rattle.viewer.specs.Calls.{search_call, step_call, open_call, page_call, close_call}
use Rattle.viewer.specs.Fetch.{fetch_call}
use Rattle.viewer.proofs.Fitting.{Fits}
use Rattle.promises.specs.Refusing.{Refuses}
use Rattle.promises.specs.Numbers as numbers
use Rattle.promises.specs.Numbers.{Plain}
use Rattle.promises.proofs.Refusals.{ok-gives, need-gives, on-gives, cond-gives, rule-gives, so-gives}
use Rattle.promises.proofs.Numbers.{by-listed, plain-gives, plain-no-page, write-gives, read-gives, step_gives, ask-gives}
use Rattle.promises.proofs.CallNumbers.{open-call-gives, page-call-gives, close-call-gives}
use Rattle.promises.proofs.Values.{read-index-most, step-index-most}
use Rattle.promises.proofs.InPages.{decode-no-column}
use Rattle.promises.proofs.Named.{each-one, others, told-by, check-named, count-named, search-named, shape-named}

-- a refusal that knows no page
fit : (w : Refusal) → w.page ≡ 0 → w.number < 256 → w.column < 4 → w.index ≤ 2048 → Fits w
fit w p n c i = record { page = omega (arith, p); number = omega (arith, n); column = omega (arith, c); index = omega (arith, i) }

-- ---- what knows no file, and gives none of 8, 9 and 10

plain_fits : {A : Type 0} (ns : List ℕ) → others ns ≡ true → (o : Out A) → Plain ns o → Refuses Fits o
plain_fits ns h o g =
    so-gives _ _ o (λ w e p. let t = told-by ns h w ((plain-gives ns o g).such w e) in fit w p t.number t.column t.index) (plain-no-page ns o g)

four-fits : (words : List ℕ) → Refuses Fits (four_rule words)
unfolding four_rule
four-fits words = rule-gives _ _ _ (fit (because table.room) refl (omega arith) (omega arith) (omega arith))

pub open-call-fits : (words : List ℕ) (room : ℕ) → Refuses Fits (open_call words room)
unfolding listed all_of
open-call-fits words room = plain_fits numbers.writer_open refl _ (open-call-gives words room)

pub page-call-fits : (words : List ℕ) (room : ℕ) (i : Handed) → Refuses Fits (page_call words room i)
unfolding listed all_of
page-call-fits words room i = plain_fits numbers.writer_page refl _ (page-call-gives words room i)

pub close-call-fits : (words : List ℕ) (room : ℕ) → Refuses Fits (close_call words room)
unfolding listed all_of
close-call-fits words room = plain_fits numbers.writer_close refl _ (close-call-gives words room)

pub write-fits : (vs : List ℕ) (size : ℕ) → Refuses Fits (write_of 64 vs size)
unfolding listed all_of
write-fits vs size = plain_fits numbers.column_write refl _ (write-gives 64 vs size)

-- ---- one column

-- names no column of a page
pub read-no-column : (P : ℕ) (s : List ℕ) (n size : ℕ) → Refuses (λ w. w.column ≡ Axis.none) (read_of P s n size)
unfolding read_of
read-no-column P s n size = need-gives _ _ _ _ refl (need-gives _ _ _ _ refl (decode-no-column P s n))

pub step-no-column : (P : ℕ) (s : List ℕ) (n : ℕ) (p : Position) → Refuses (λ w. w.column ≡ Axis.none) (step_of P s n p)
unfolding step_of first_call later_call end_rules
step-no-column P s n p =
    need-gives _ _ _ _ refl
    (cond-gives _ (eqb p.given 0) _ _
    (cond-gives _ (eqb n 0) _ _ (need-gives _ _ _ _ refl (need-gives _ _ _ _ refl (ok-gives _ _)))
    (need-gives _ _ _ _ refl (need-gives _ _ _ _ refl (need-gives _ _ _ _ refl (ok-gives _ _)))))
    (need-gives _ _ _ _ refl
    (need-gives _ _ _ _ refl
    (cond-gives _ (leb n p.given) _ _ (need-gives _ _ _ _ refl (need-gives _ _ _ _ refl (ok-gives _ _)))
    (need-gives _ _ _ _ refl (need-gives _ _ _ _ refl (ok-gives _ _)))))))

-- over 2,048 values the answer is 3, which has no index
bounded : {A : Type 0} (n : ℕ) (o : Out A) → (2048 < n → o ≡ refused (because table.many)) → Refuses (λ w. w.index ≤ n) o → Refuses (λ w. w.index ≤ 2048) o
bounded n o many g = so-gives _ _ o (λ w e i. go w e i (dec_le n 2048)) g
  where
    over : (w : Refusal) → o ≡ refused w → 2048 < n → w.index ≤ 2048
    over w e l = let z : w ≡ because table.many = refused-inj (sym e ∙ many l) in omega (arith, ap (λ (x : Refusal). x.index) z)

    go : (w : Refusal) → o ≡ refused w → w.index ≤ n → Dec (n ≤ 2048) → w.index ≤ 2048
    go w e i (yes l) = omega (arith, i, l)
    go w e i (no l) = over w e (omega arith)

column_fits : {A : Type 0} (ns : List ℕ) → all_of (λ (n : ℕ). ltb n 256) ns ≡ true → (o : Out A) → Plain ns o → Refuses (λ w. w.column ≡ Axis.none) o
    → Refuses (λ w. w.index ≤ 2048) o → Refuses Fits o
column_fits ns h o g c i =
    so-gives _ _ o
    (λ w e p.
    let n = ltb-true w.number 256 (each-one (λ (n : ℕ). ltb n 256) ns h w.number (by-listed ns w ((plain-gives ns o g).such w e))) in
    fit w p n (omega (arith, c.such w e)) (i.such w e))
    (plain-no-page ns o g)

pub read_fits : (s : List ℕ) (n size : ℕ) → Refuses Fits (read_of 64 s n size)
unfolding listed all_of
read_fits s n size =
    column_fits numbers.column_read refl _ (read-gives 64 s n size) (read-no-column 64 s n size) (bounded n _ (read-many 64 s n size) (read-index-most 64 s n size))

pub step-call-fits : (column : List ℕ) (n : ℕ) (words : List ℕ) → Refuses Fits (step_call column n words)
unfolding step_call listed all_of
step-call-fits column n words =
    let p = position_of words in
    on-gives _ _ _ (four-fits words) (λ _.
    column_fits numbers.column_step refl _ (step_gives 64 column n p) (step-no-column 64 column n p) (bounded n _ (next-many 64 column n p) (step-index-most 64 column n p)))

-- ---- over a file

module _ (file : List ℕ) (y : Bytes file) where
  ask-fits : (query : List ℕ) → Refuses Fits (ask_of query)
  unfolding listed all_of
  ask-fits query = plain_fits (1 ∷ []) refl _ (ask-gives query)

  pub check-call-fits : Refuses Fits (on (check_of file) (λ t. ok t.shapes))
  check-call-fits = on-gives _ _ _ (so-gives _ _ (check_of file) (λ w e k. k.1) (check-named file y)) (λ t. ok-gives _ _)

  pub count-call-fits : (query : List ℕ) → Refuses Fits (on (ask_of query) (λ a. count_of a file))
  count-call-fits query = on-gives _ _ _ (ask-fits query) (λ a. so-gives _ _ (count_of a file) (λ w e k. k.1) (count-named file y a))

  pub search-call-fits : (query : List ℕ) (room : ℕ) → Refuses Fits (search_call query file room)
  unfolding search_call
  search-call-fits query room = on-gives _ _ _ (ask-fits query) (λ a. so-gives _ _ _ (λ w e k. k.1) (search-named file y a room))

  pub fetch-call-fits : (place about : ℕ) (r : Rooms) → Refuses Fits (fetch_call file place about r)
  unfolding fetch_call
  fetch-call-fits place about r =
      on-gives _ _ _ (so-gives _ _ _ (λ w e k. k.1) (shape-named file y place))
      (λ sh. need-gives _ _ _ _ (fit (because table.room) refl (omega arith) (omega arith) (omega arith)) (ok-gives _ _))
