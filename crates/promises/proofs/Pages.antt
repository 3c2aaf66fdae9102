-- "The page number is, for a frame refusal, the number of page blocks passed before it; for page contents in a file, that page; in every other case 0": a
-- theorem for each service, for any input. Nothing is assumed.
use Prim.Native.Nat.{ℕ}
use mathlib.Core.Path.{◌≡◌, refl}
use mathlib.Core.Bool.{true}
use mathlib.Core.List.{List, [], ◌∷◌}
use Rattle.answer.specs.Refusal.{because}
use Rattle.answer.specs.Outcome.{Out, ok}
use Rattle.answer.specs.All.{all_of}
use Rattle.answer.proofs.Outcomes.{on-ok}
use Rattle.column.specs.Write.{write_of}
use Rattle.column.specs.Read.{read_of}
use Rattle.column.specs.declared.Position.{Position}
use Rattle.step.specs.Step.{step_of}
use Rattle.query.specs.declared.ask.Ask.{Ask}
use Rattle.query.specs.Block.{block_len, ask_of}
use Rattle.frame.specs.Frame.{Page, Frame, frame_of}
use Rattle.pageblock.specs.Body.{Handed}
use Rattle.pageblock.specs.Page.{page_block_of}
use Rattle.writer.specs.declared.Writer.{Writer}
use Rattle.writer.specs.State.{open_of, page_step_of, close_of}
use Rattle.file.specs.Check.{check_of}
use Rattle.search.specs.Search.{met_in, hits_of, search_of, count_of}
use Rattle.place.specs.Seek.{Seat, seat_of}
use Rattle.fetch.specs.Fetch.{shape_of, shape_in, Rooms, in_rooms, fetch_of}
use Rattle.place.specs.Rows.{rows_in, rows_of}
use Rattle.promises.specs.Refusing.{Refuses}
use Rattle.search.specs.Listed.{listed}
use Rattle.promises.specs.Numbers as numbers
use Rattle.promises.specs.Numbers.{IsBy, Gives, Plain}
use Rattle.promises.specs.Pages.{NoPage, InContents, EveryPage, MetPages, PlacePage, NoPages, HasPage, contents_refusal, other_refusal}
use Rattle.promises.proofs.Refusals.{ok-gives, need-gives, after-gives, on-gives, rule-gives, so-gives}
use Rattle.promises.proofs.Numbers as gives
use Rattle.promises.proofs.Numbers.{every, plain-no-page, widened}
use Rattle.promises.proofs.PassedBlocks.{frame-paged}
use Rattle.promises.proofs.OpenedPages.{before-none, here-refused, pages-refused, met-refused, seek-page, none_before}

-- ---- "in every other case 0": what knows no file

-- the column written, and read
pub write-page : (P : ℕ) (vs : List ℕ) (size : ℕ) → NoPage (write_of P vs size)
write-page P vs size = plain-no-page numbers.column_write _ (gives.write-gives P vs size)

pub read-page : (P : ℕ) (s : List ℕ) (n size : ℕ) → NoPage (read_of P s n size)
read-page P s n size = plain-no-page numbers.column_read _ (gives.read-gives P s n size)

-- one value a call
pub step-page : (P : ℕ) (s : List ℕ) (n : ℕ) (p : Position) → NoPage (step_of P s n p)
step-page P s n p = plain-no-page numbers.column_step _ (gives.step_gives P s n p)

-- the query's block, its length and what it asks
pub len-page : (s : List ℕ) → NoPage (block_len s)
len-page s = plain-no-page (1 ∷ []) _ (gives.len_gives s)

pub ask-page : (s : List ℕ) → NoPage (ask_of s)
ask-page s = plain-no-page (1 ∷ []) _ (gives.ask-gives s)

-- a page's block
pub page-block-page : (ed room : ℕ) (i : Handed) → NoPage (page_block_of ed room i)
page-block-page ed room i = plain-no-page numbers.page_block _ (gives.page-block-gives ed room i)

-- the writer: open, page, close
pub open-page : (room : ℕ) → NoPage (open_of room)
open-page room = plain-no-page numbers.writer_open _ (gives.open_gives room)

pub page-step-page : (st : Writer) (room : ℕ) (i : Handed) → NoPage (page_step_of st room i)
page-step-page st room i = plain-no-page numbers.writer_page _ (gives.page-step-gives st room i)

pub close-page : (st : Writer) (room : ℕ) → NoPage (close_of st room)
close-page st room = plain-no-page numbers.writer_close _ (gives.close-gives st room)

-- ---- what is over a file

-- the frame alone opens no page and has no other number
pub frame-page : (s : List ℕ) → HasPage s NoPages [] (frame_of s)
frame-page s = frame-paged s NoPages []

module _ (s : List ℕ) (Opens : List Page → ℕ → Page → Type 0) (others : List ℕ) where
  -- where the frame passes and contents are refused
  contents-paged : {A : Type 0} (f : Frame) (o : Out A) → frame_of s ≡ ok f → Gives numbers.contents o → Refuses (InContents (Opens f.pages) f.pages) o → HasPage s Opens others o
  contents-paged f o e g k = so-gives _ _ o (λ w q i. contents_refusal f (g.such w q) e i) k

  -- what concerns no page
  others-paged : {A : Type 0} (ns : List ℕ) (o : Out A) → every ns others ≡ true → Plain ns o → HasPage s Opens others o
  others-paged ns o h g = so-gives _ _ o (λ w q z. other_refusal ((widened ns others h o g).such w q) z) (plain-no-page ns o g)

-- the full check opens every page, and has no other number
pub check-page : (s : List ℕ) → HasPage s EveryPage [] (check_of s)
unfolding check_of
check-page s =
    after-gives _ _ _ (frame-paged s EveryPage []) (λ f e.
    on-gives _ _ _ (contents-paged s EveryPage [] f _ e (gives.pages-give f.pages 0) (pages-refused f.pages f.pages 0 refl (before-none (EveryPage f.pages) f.pages)))
    (λ _. ok-gives _ _))

-- the search opens each page whose box meets the query; its others are 1 and 2, those of the count 1
hits-page : (a : Ask) (s others : List ℕ) → IsBy others (because 1) → HasPage s (MetPages a) others (hits_of a s)
unfolding hits_of met_in
hits-page a s others h =
    on-gives _ _ _ (rule-gives _ _ _ (other_refusal h refl)) (λ _.
    after-gives _ _ _ (frame-paged s (MetPages a) others) (λ f e.
    contents-paged s (MetPages a) others f _ e (gives.met-gives a f.pages 0 0)
    (met-refused a f.pages f.pages 0 0 refl (before-none (MetPages a f.pages) f.pages))))

pub count-page : (a : Ask) (s : List ℕ) → HasPage s (MetPages a) (1 ∷ []) (count_of a s)
unfolding count_of listed
count-page a s = on-gives _ _ _ (hits-page a s (1 ∷ []) refl) (λ l. ok-gives _ _)

pub search-page : (a : Ask) (s : List ℕ) (room : ℕ) → HasPage s (MetPages a) (1 ∷ 2 ∷ []) (search_of a s room)
unfolding search_of listed
search-page a s room = on-gives _ _ _ (hits-page a s (1 ∷ 2 ∷ []) refl) (λ l. need-gives _ _ _ _ (other_refusal refl refl) (ok-gives _ _))

-- fetch opens the page of its place; its others are 17 and 2
module _ (s : List ℕ) (n : ℕ) where
  -- the seat: frame, 17
  seat-page : HasPage s (PlacePage n) (17 ∷ 2 ∷ []) (seat_of s n)
  unfolding seat_of listed all_of
  seat-page =
      on-gives _ _ _ (frame-paged s (PlacePage n) (17 ∷ 2 ∷ [])) (λ f.
      others-paged s (PlacePage n) (17 ∷ 2 ∷ []) numbers.no_shape _ refl (gives.seek-gives f.pages 0 n))

  -- the contents of its page, and 17 once more
  shape-page : (t : Seat) → seat_of s n ≡ ok t → HasPage s (PlacePage n) (17 ∷ 2 ∷ []) (shape_of t)
  unfolding seat_of shape_of listed all_of
  shape-page t e =
      let a = on-ok (frame_of s) _ t e in
      let ps = a.0.pages in
      let k = seek-page ps n t a.2 in
      on-gives _ _ _
      (contents-paged s (PlacePage n) (17 ∷ 2 ∷ []) a.0 _ a.1
      (gives.page-gives numbers.contents t.page _ (gives.contents-give t.held.head t.held.body))
      (here-refused (PlacePage n ps) ps t.page t.held k.0.rest k.0.there k.1 (none_before ps n t.page t.held k.1)))
      (λ here. others-paged s (PlacePage n) (17 ∷ 2 ∷ []) numbers.no_shape _ refl (gives.nth-gives t.index here))

-- whatever the rooms
pub place-page : (s : List ℕ) (n : ℕ) → HasPage s (PlacePage n) (17 ∷ 2 ∷ []) (shape_in s n)
unfolding shape_in
place-page s n = after-gives _ _ _ (seat-page s n) (shape-page s n)

pub fetch-page : (s : List ℕ) (n : ℕ) (r : Rooms) → HasPage s (PlacePage n) (17 ∷ 2 ∷ []) (fetch_of s n r)
unfolding fetch_of in_rooms listed
fetch-page s n r = on-gives _ _ _ (place-page s n) (λ sh. need-gives _ _ _ _ (other_refusal refl refl) (ok-gives _ _))

-- the rows open none; their others are 17 and 2
pub rows-page : (s places : List ℕ) (registers types : ℕ) → HasPage s NoPages (17 ∷ 2 ∷ []) (rows_of s places registers types)
unfolding rows_of rows_in listed all_of
rows-page s places registers types =
    on-gives _ _ _
    (on-gives _ _ _ (frame-paged s NoPages (17 ∷ 2 ∷ [])) (λ f.
    others-paged s NoPages (17 ∷ 2 ∷ []) numbers.no_shape _ refl (gives.each-row-gives f.pages places)))
    (λ rs. need-gives _ _ _ _ (other_refusal refl refl) (ok-gives _ _))
