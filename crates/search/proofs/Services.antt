-- The order of the services: the query, the frame, the pages, and the room last; one law for each return. Assumes nothing.
use mathlib.Core.Path.{◌≡◌, refl, sym, ap, ◌∙◌}
use mathlib.Core.Bool.{true}
use mathlib.Core.List.{List, ◌++◌}
use Prim.Native.Nat.{ℕ, zero, suc, ◌+◌, ◌≤◌, ◌<◌}
use native.Mathlib.Omega.{arith}
use borrow.Author.Tests.{le-leb, lt-leb}
use lib.Dec.{leb}
use lib.ListN.{length, drop, replicate}
use lib.Seq.{sets, sets-eq}
use Rattle.answer.specs.Table as table
use Rattle.answer.specs.declared.Refusal.{Refusal}
use Rattle.answer.specs.Refusal.{because}
use Rattle.answer.specs.Outcome.{Out, refused, ok, need, on, Fills}
use Rattle.answer.specs.Rule.{rule}
use Rattle.answer.proofs.Determined.{answer-one}
use Rattle.answer.proofs.Outcomes.{met, unmet, fills-refused, fills-ok}
use Rattle.answer.proofs.Rules.{rule-holds, rule-ok}
use Rattle.le.specs.Number.{number}
use Rattle.query.specs.declared.ask.Ask.{Ask}
use Rattle.query.specs.Ask.{good_query}
use Rattle.frame.specs.Frame.{frame_of}
use Rattle.answer.proofs.Orders.{on-refused, on_value, then-refused, then-holds}
use Rattle.search.specs.Search.{met_in, hits_of, search_of, count_of}
use Rattle.search.specs.Met.{Meets}
use Rattle.search.specs.Flags.{places_in}
use Rattle.search.proofs.Sequence.{met-order, hits-order}
use Rattle.search.proofs.Opened.{meets-refused, meets-hits}
use Rattle.search.proofs.Ordered.{hits-back}

-- ---- the hits of a file

-- what the judged query says
pub query-sound : (a : Ask) → (ok tt) ≡ rule (good_query a.query) table.query → good_query a.query ≡ true
query-sound a q = rule-ok (good_query a.query) table.query tt (sym q)

module _ (a : Ask) (s : List ℕ) where
  pub query-refused : (w : Refusal) → refused w ≡ rule (good_query a.query) table.query → hits_of a s ≡ refused w
  query-refused w q = hits-order a s ∙ then-refused (rule (good_query a.query) table.query) _ w q

  -- of a good query
  module _ (q : good_query a.query ≡ true) where
    pub sound-met : hits_of a s ≡ met_in a s
    sound-met = hits-order a s ∙ then-holds (rule (good_query a.query) table.query) _ (sym (rule-holds (good_query a.query) table.query q))

    pub frame_refused : {n to : ℕ} {d e : List ℕ} (w : Refusal) → frame_of s ≡ refused w → Meets (hits_of a s) n to (refused w) d e
    frame_refused w e = meets-refused w (sound-met ∙ met-order a s ∙ on-refused (frame_of s) _ w e)

-- ---- the count

pub count-said : (a : Ask) (s : List ℕ) (r : Out ℕ) → r ≡ on (hits_of a s) (λ l. ok (length l)) → r ≡ count_of a s
unfolding count_of
count-said a s r e = e

pub count-refused : (a : Ask) (s : List ℕ) (w : Refusal) → hits_of a s ≡ refused w → refused w ≡ count_of a s
unfolding count_of
count-refused a s w e = sym (on-refused (hits_of a s) _ w e)

-- ---- the search

module _ (a : Ask) (s : List ℕ) (room : ℕ) where
  pub search-refused : (w : Refusal) → hits_of a s ≡ refused w → search_of a s room ≡ refused w
  unfolding search_of
  search-refused w e = on-refused (hits_of a s) _ w e

  module _ (l : List ℕ) (e : hits_of a s ≡ ok l) where
    pub search-room : room < length l → search_of a s room ≡ refused (because table.room)
    unfolding search_of
    search-room h = on_value (hits_of a s) _ l e ∙ unmet (because table.room) (ok l) (lt-leb (length l) room h)

    pub search-hits : length l ≤ room → search_of a s room ≡ ok l
    unfolding search_of
    search-hits h = on_value (hits_of a s) _ l e ∙ met (because table.room) (ok l) (le-leb (length l) room h)

-- nothing but the hits counts
pub search-by-hits : (a : Ask) (s t : List ℕ) (room : ℕ) → hits_of a s ≡ hits_of a t → search_of a s room ≡ search_of a t room
unfolding search_of
search-by-hits a s t room = ap (λ (o : Out (List ℕ)). on o (λ l. need (leb (length l) room) (because table.room) (ok l)))

-- flags that are all clear
pub number-zeros : (n : ℕ) → number (replicate n 0) ≡ 0
unfolding number
number-zeros zero = refl
number-zeros (suc n) = let r = number-zeros n in omega (arith, r)

-- what was found, with flags for every place that were clear
pub record Flagged (a : Ask) (s e : List ℕ) (n : ℕ) : Type 0 where
  pub places : List ℕ
  pub hits : hits_of a s ≡ ok places
  pub count : n ≡ length places
  pub listed : places_in 0 262144 (number e) ≡ places

pub noted : (a : Ask) (s d e : List ℕ) (r : Out ℕ) (n : ℕ) → Meets (hits_of a s) 0 262144 r d e → r ≡ ok n → number d ≡ 0 → length d ≡ 32768
    → Flagged a s e n
noted a s d e r n m q z k =
    let h = meets-hits r m n q in
    let x = (m.flags h.0 h.1).added (omega (arith, k)) (omega (arith, z)) in
    record { places = h.0; hits = h.1; count = h.2; listed = hits-back a s h.0 h.1 (number e) (omega (arith, x, z)) }

module _ (a : Ask) (s e : List ℕ) (n : ℕ) (w : Flagged a s e n) (out : List ℕ) where
  pub search-no-room : length out < n → Fills (search_of a s (length out)) out (refused (because table.room)) out
  search-no-room h = fills-refused (because table.room) (search-room a s (length out) w.places w.hits (omega (arith, h, w.count)))

  pub search-counts : n ≡ length (places_in 0 262144 (number e))
  search-counts = w.count ∙ ap length (sym w.listed)

  pub search-lists : (left : List ℕ) → n ≤ length out → left ≡ sets out 0 (places_in 0 262144 (number e))
      → Fills (search_of a s (length out)) out (ok n) left
  search-lists left h q =
      let c = w.count in
      let z : 0 + length w.places ≡ n = omega (arith, c) in
      fills-ok w.places n left (search-hits a s (length out) w.places w.hits (omega (arith, h, c))) c
      (q ∙ ap (sets out 0) w.listed ∙ sets-eq w.places out 0 (omega (arith, h, c)) ∙ ap (λ (k : ℕ). w.places ++ drop k out) z)

-- two counts of one query are the same
pub said-count-one : {o x y : Out ℕ} → x ≡ o → y ≡ o → x ≡ y
said-count-one = answer-one
