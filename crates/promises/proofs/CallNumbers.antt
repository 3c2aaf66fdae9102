-- The same of the calls for C: each gives no number but those of its service, and of a call through four words 2 where there are fewer; with no
-- file the page is 0. The calls that write and read a column are those services themselves (`write-gives`, `read-gives`). Nothing is assumed.
use Prim.Native.Nat.{ℕ}
use mathlib.Core.Path.{refl}
use mathlib.Core.List.{List, [], ◌∷◌}
use Rattle.answer.specs.Table as table
use Rattle.answer.specs.declared.Refusal.{Refusal}
use Rattle.answer.specs.Refusal.{because}
use Rattle.answer.specs.Outcome.{ok, on}
use Rattle.answer.specs.All.{all_of}
use Rattle.query.specs.Block.{ask_of}
use Rattle.pageblock.specs.Body.{Handed}
use Rattle.file.specs.Check.{check_of}
use Rattle.search.specs.Listed.{listed}
use Rattle.search.specs.Search.{count_of}
use Rattle.fetch.specs.Fetch.{Rooms}
use Rattle.viewer.specs.Four.{four_rule, position_of, state_of}
use Rattle.viewer.specs.Calls.{search_call, step_call, open_call, page_call, close_call}
use Rattle.viewer.specs.Fetch.{fetch_call}
use Rattle.promises.specs.Refusing.{Refuses}
use Rattle.promises.specs.Numbers as numbers
use Rattle.promises.specs.Numbers.{Gives, Plain}
use Rattle.promises.proofs.Refusals.{ok-gives, need-gives, on-gives, rule-gives}
use Rattle.promises.proofs.Numbers.{widened, plainer, step_gives, ask-gives, check-gives, search-gives, count_gives, shape-gives, open_gives, page-step-gives, close-gives}

-- fewer than four words: 2
four-gives : (Such : Refusal → Type 0) (words : List ℕ) → Such (because table.room) → Refuses Such (four_rule words)
unfolding four_rule
four-gives Such words h = rule-gives Such _ _ h

-- ---- the full check and the search

pub check-call-gives : (file : List ℕ) → Gives numbers.check (on (check_of file) (λ t. ok t.shapes))
check-call-gives file = on-gives _ _ _ (check-gives file) (λ t. ok-gives _ _)

pub count-call-gives : (query file : List ℕ) → Gives numbers.count (on (ask_of query) (λ a. count_of a file))
unfolding listed all_of
count-call-gives query file = on-gives _ _ _ (widened (1 ∷ []) numbers.count refl _ (ask-gives query)) (λ a. count_gives a file)

pub search-call-gives : (query file : List ℕ) (room : ℕ) → Gives numbers.search (search_call query file room)
unfolding search_call listed all_of
search-call-gives query file room = on-gives _ _ _ (widened (1 ∷ []) numbers.search refl _ (ask-gives query)) (λ a. search-gives a file room)

-- ---- one value of a column, and one shape

pub step-call-gives : (column : List ℕ) (n : ℕ) (words : List ℕ) → Plain numbers.step_through_words (step_call column n words)
unfolding step_call listed all_of
step-call-gives column n words =
    on-gives _ _ _ (four-gives _ words refl) (λ _. plainer numbers.column_step numbers.step_through_words refl _ (step_gives 64 column n (position_of words)))

pub fetch-call-gives : (file : List ℕ) (place about : ℕ) (r : Rooms) → Gives numbers.fetch (fetch_call file place about r)
unfolding fetch_call listed
fetch-call-gives file place about r = on-gives _ _ _ (shape-gives file place) (λ sh. need-gives _ _ _ _ refl (ok-gives _ _))

-- ---- the writer

pub open-call-gives : (words : List ℕ) (room : ℕ) → Plain numbers.writer_open (open_call words room)
unfolding open_call listed
open-call-gives words room = on-gives _ _ _ (four-gives _ words refl) (λ _. open_gives room)

pub page-call-gives : (words : List ℕ) (room : ℕ) (i : Handed) → Plain numbers.writer_page (page_call words room i)
unfolding page_call listed
page-call-gives words room i = on-gives _ _ _ (four-gives _ words refl) (λ _. page-step-gives (state_of words) room i)

pub close-call-gives : (words : List ℕ) (room : ℕ) → Plain numbers.writer_close (close_call words room)
unfolding close_call listed
close-call-gives words room = on-gives _ _ _ (four-gives _ words refl) (λ _. close-gives (state_of words) room)
