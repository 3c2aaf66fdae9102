-- "Bad input is refused by one number from the table": each service gives no number but those of its line in document 01's "Order", for any input. `Plain`
-- says beside it that the page number is 0, of all that knows no file. Nothing is assumed.
use Prim.Native.Nat.{ℕ, zero, suc, ◌+◌, ◌-◌}
use mathlib.Core.Path.{◌≡◌, refl, sym, ap, subst}
use mathlib.Core.Bool.{Bool, true, false, ◌&&◌, ◌||◌}
use mathlib.Core.List.{List, [], ◌∷◌}
use lib.Dec.{eqb, leb, ltb}
use lib.ListN.{length}
use borrow.Author.Tests.{eqb-true}
use Rattle.answer.specs.declared.Refusal.{Refusal}
use Rattle.answer.specs.Table as table
use Rattle.answer.specs.Axis as Axis
use Rattle.answer.specs.Refusal.{because, at_value, on_column, on_page}
use Rattle.answer.specs.All.{all_of}
use Rattle.answer.specs.Outcome.{Out, refused, ok, on, in_column, in_page}
use Rattle.answer.proofs.Both.{no_both, both, both_l, both_r}
use Rattle.block.specs.Block.{block_at}
use Rattle.column.specs.Write.{write_of}
use Rattle.column.specs.Read.{end_rules, some_of, decode_of, read_of}
use Rattle.column.specs.declared.Position.{Position}
use Rattle.step.specs.Step as step
use Rattle.extent.specs.Boxes.{patterns}
use Rattle.query.specs.declared.ask.Ask.{Ask}
use Rattle.query.specs.Ask.{opens}
use Rattle.query.specs.Block.{instead, len_of, block_len, spot_asked, window_asked, asked, ask_of}
use Rattle.types.specs.Parts.{parts_rule}
use Rattle.shape.specs.Outline.{Outline, Shape}
use Rattle.shape.specs.Rules.{finite_rule, ring_rule, grid_rule, turn_rule, box_rule, outline_rules}
use Rattle.frame.specs.Layout.{the_edition}
use Rattle.frame.specs.declared.cursor.Cursor.{Cursor}
use Rattle.frame.specs.declared.cursor.PageAt.{PageAt}
use Rattle.frame.specs.declared.head.Head.{Head}
use Rattle.frame.specs.Head.{sized_head, head_of}
use Rattle.frame.specs.Next.{NextBlock, as_first, first_of, as_page, as_end, by_kind, next_of}
use Rattle.frame.specs.Next as turn
use Rattle.frame.specs.Frame as framed
use Rattle.frame.specs.Frame.{Page, page_or_end, walk, frame_of}
use Rattle.page.specs.Contents.{vertices_of, contents_of}
use Rattle.pageblock.specs.Body.{Handed}
use Rattle.pageblock.specs.Page.{counts_rule, page_rules, page_written, room_for, page_block_of}
use Rattle.writer.specs.declared.Writer.{Writer}
use Rattle.writer.specs.State.{put_at, open_rule, open_of, pages_rule, page_step_of, totals_rule, close_of}
use Rattle.file.specs.File.{pages_of}
use Rattle.file.specs.Check.{check_of}
use Rattle.search.specs.Search.{page_hits, met_of, met_in, hits_of, search_of, count_of}
use Rattle.place.specs.Seek.{seek_in, seat_of}
use Rattle.place.specs.Nth.{shape_at}
use Rattle.fetch.specs.Fetch.{shape_of, shape_in, Rooms, in_rooms, fetch_of}
use Rattle.place.specs.Rows.{rows_at, rows_in, rows_of}
use Rattle.promises.specs.Refusing.{Refuses}
use Rattle.search.specs.Listed.{listed}
use Rattle.promises.specs.Numbers as numbers
use Rattle.promises.specs.Numbers.{tidy, IsBy, IsPlain, Gives, Plain}
use Rattle.promises.specs.Pages.{NoPage}
use Rattle.promises.proofs.Refusals.{ok-gives, refused-gives, need-gives, on-gives, marked-gives, cond-gives, rule-gives, so-gives}

-- ---- among more numbers all the more

-- each of the first is one of the others
abbrev pub every : List ℕ → List ℕ → Bool
every ns ms = all_of (λ (n : ℕ). listed n ms) ns

among : (ns ms : List ℕ) → every ns ms ≡ true → (n : ℕ) → listed n ns ≡ true → listed n ms ≡ true
unfolding listed all_of
among [] ms h n e = absurd (no_both refl e)
among (m ∷ ns) ms h n e =
    go (eqb n m) refl e (both_l (listed m ms) (every ns ms) h) (λ k. among ns ms (both_r (listed m ms) (every ns ms) h) n k)
  where
    go : (t : Bool) → eqb n m ≡ t → (t || listed n ns) ≡ true → listed m ms ≡ true → (listed n ns ≡ true → listed n ms ≡ true) → listed n ms ≡ true
    go true z k f g = subst (λ (x : ℕ). listed x ms ≡ true) (sym (eqb-true n m z)) f
    go false z k f g = g k

-- a number that is given is one of these
pub by-listed : (ns : List ℕ) (w : Refusal) → IsBy ns w → listed w.number ns ≡ true
by-listed ns w k = both_l (listed w.number ns) (tidy w) k

-- and where it is none of 8, 9 and 10 it names no column and no value
pub by-tidy : (ns : List ℕ) (w : Refusal) → IsBy ns w → tidy w ≡ true
by-tidy ns w k = both_r (listed w.number ns) (tidy w) k

wider : {A : Type 0} (ns ms : List ℕ) → every ns ms ≡ true → (o : Out A) → Gives ns o → Gives ms o
wider ns ms h o g =
    so-gives (IsBy ns) (IsBy ms) o (λ w e k. both (among ns ms h w.number (by-listed ns w k)) (by-tidy ns w k)) g

-- ---- a plain refusal: its number, and page 0

pub plain-listed : (ns : List ℕ) (w : Refusal) → IsPlain ns w → listed w.number ns ≡ true
plain-listed ns w k = both_l (listed w.number ns) (eqb w.page 0 && tidy w) k

plain-rest : (ns : List ℕ) (w : Refusal) → IsPlain ns w → (eqb w.page 0 && tidy w) ≡ true
plain-rest ns w k = both_r (listed w.number ns) (eqb w.page 0 && tidy w) k

plain_by : (ns : List ℕ) (w : Refusal) → IsPlain ns w → IsBy ns w
plain_by ns w k = both (plain-listed ns w k) (both_r (eqb w.page 0) (tidy w) (plain-rest ns w k))

pub plain-gives : {A : Type 0} (ns : List ℕ) (o : Out A) → Plain ns o → Gives ns o
plain-gives ns o g = so-gives (IsPlain ns) (IsBy ns) o (λ w e k. plain_by ns w k) g

pub plain-no-page : {A : Type 0} (ns : List ℕ) (o : Out A) → Plain ns o → NoPage o
plain-no-page ns o g = so-gives (IsPlain ns) _ o (λ w e k. eqb-true w.page 0 (both_l (eqb w.page 0) (tidy w) (plain-rest ns w k))) g

pub plainer : {A : Type 0} (ns ms : List ℕ) → every ns ms ≡ true → (o : Out A) → Plain ns o → Plain ms o
plainer ns ms h o g =
    so-gives (IsPlain ns) (IsPlain ms) o
    (λ w e k. both (among ns ms h w.number (plain-listed ns w k)) (plain-rest ns w k)) g

pub widened : {A : Type 0} (ns ms : List ℕ) → every ns ms ≡ true → (o : Out A) → Plain ns o → Gives ms o
widened ns ms h o g = plain-gives ms o (plainer ns ms h o g)

-- met in a page it keeps its number
pub page-gives : {A : Type 0} (ns : List ℕ) (k : ℕ) (o : Out A) → Plain ns o → Gives ns (in_page k o)
page-gives ns k o g = marked-gives (IsBy ns) (on_page k) o (so-gives (IsPlain ns) _ o (λ w e h. plain_by ns w h) g)

-- a column's bits met in a column of a page keep number and page
column-gives : {A : Type 0} (c : ℕ) (o : Out A) → Plain numbers.column_bits o → Plain numbers.column_bits (in_column c o)
column-gives c o g = marked-gives (IsPlain numbers.column_bits) (on_column c) o (so-gives (IsPlain numbers.column_bits) _ o (λ w e k. named w k) g)
  where
    named : (w : Refusal) → IsPlain numbers.column_bits w → IsPlain numbers.column_bits (on_column c w)
    named w k =
        let l = plain-listed numbers.column_bits w k in
        both l (both (both_l (eqb w.page 0) (tidy w) (plain-rest numbers.column_bits w k)) (ap (λ (t : Bool). t || (eqb c Axis.none && eqb w.index 0)) l))

-- ---- columns

pub write-gives : (P : ℕ) (vs : List ℕ) (size : ℕ) → Plain numbers.column_write (write_of P vs size)
unfolding write_of listed
write-gives P vs size = need-gives _ _ _ _ refl (need-gives _ _ _ _ refl (ok-gives _ _))

ending-gives : {A : Type 0} (Such : Refusal → Type 0) (s : List ℕ) (n e : ℕ) (o : Out A) → Such (at_value n (because 9)) → Such (at_value n (because 10)) → Refuses Such o
    → Refuses Such (end_rules s n e o)
unfolding end_rules
ending-gives Such s n e o h k g = need-gives _ _ _ _ h (need-gives _ _ _ _ k g)

-- a column's bytes, whatever the room: 8, 9, 10
some-gives : (P : ℕ) (s : List ℕ) (n : ℕ) → Plain numbers.column_bits (some_of P s n)
unfolding some_of listed
some-gives P s n = need-gives _ _ _ _ refl (need-gives _ _ _ _ refl (need-gives _ _ _ _ refl (ending-gives _ _ _ _ _ refl refl (ok-gives _ _))))

pub decode-gives : (P : ℕ) (s : List ℕ) (n : ℕ) → Plain numbers.column_bits (decode_of P s n)
unfolding decode_of listed
decode-gives P s n = cond-gives _ (eqb n 0) (end_rules s 0 0 (ok [])) (some_of P s n) (ending-gives _ _ _ _ _ refl refl (ok-gives _ _)) (some-gives P s n)

pub read-gives : (P : ℕ) (s : List ℕ) (n size : ℕ) → Plain numbers.column_read (read_of P s n size)
unfolding read_of listed all_of
read-gives P s n size = need-gives _ _ _ _ refl (need-gives _ _ _ _ refl (plainer numbers.column_bits numbers.column_read refl _ (decode-gives P s n)))

next-gives : (P : ℕ) (s : List ℕ) (n : ℕ) → Plain numbers.column_step (step.first_call P s n)
unfolding step.first_call listed
next-gives P s n = cond-gives _ (eqb n 0) (end_rules s 0 0 (ok step.end)) _ (ending-gives _ _ _ _ _ refl refl (ok-gives _ _)) (need-gives _ _ _ _ refl (need-gives _ _ _ _ refl (need-gives _ _ _ _ refl (ok-gives _ _))))

later-gives : (P : ℕ) (s : List ℕ) (n : ℕ) (p : Position) → Plain numbers.column_step (step.later_call P s n p)
unfolding step.later_call listed
later-gives P s n p =
    need-gives _ _ _ _ refl
    (need-gives _ _ _ _ refl
    (cond-gives _ (leb n p.given) (end_rules s n p.at (ok step.end)) _ (ending-gives _ _ _ _ _ refl refl (ok-gives _ _))
    (need-gives _ _ _ _ refl (need-gives _ _ _ _ refl (ok-gives _ _)))))

pub step_gives : (P : ℕ) (s : List ℕ) (n : ℕ) (p : Position) → Plain numbers.column_step (step.step_of P s n p)
unfolding step.step_of listed
step_gives P s n p = need-gives _ _ _ _ refl (cond-gives _ (eqb p.given 0) (step.first_call P s n) (step.later_call P s n p) (next-gives P s n) (later-gives P s n p))

-- ---- the query's block

instead-gives : {A : Type 0} (o : Out A) → Plain (1 ∷ []) (instead (because table.query) o)
unfolding instead listed
instead-gives (refused w) = refused-gives _ _ refl
instead-gives (ok a) = ok-gives _ _

asked-gives : (s : List ℕ) → Plain (1 ∷ []) (asked s)
unfolding asked spot_asked window_asked listed
asked-gives s =
    cond-gives _ (eqb (length s) 6) _ _ (ok-gives _ _)
    (cond-gives _ (eqb (length s) 22) _ _ (need-gives _ _ _ _ refl (ok-gives _ _))
    (cond-gives _ (eqb (length s) 38) _ _ (need-gives _ _ _ _ refl (ok-gives _ _)) (refused-gives _ _ refl)))

pub len_gives : (s : List ℕ) → Plain (1 ∷ []) (block_len s)
unfolding block_len len_of listed
len_gives s = on-gives _ _ _ (instead-gives (block_at s 0)) (λ b. need-gives _ _ _ _ refl (ok-gives _ _))

pub ask-gives : (s : List ℕ) → Plain (1 ∷ []) (ask_of s)
unfolding ask_of listed
ask-gives s = on-gives _ _ _ (len_gives s) (λ n. need-gives _ _ _ _ refl (asked-gives s))

-- ---- the frame

block-gives : (s : List ℕ) (at : ℕ) → Plain numbers.frame (block_at s at)
unfolding block_at listed
block-gives s at = need-gives _ _ _ _ refl (ok-gives _ _)

pub first_gives : (s : List ℕ) → Plain numbers.frame (first_of s)
unfolding first_of as_first listed
first_gives s =
    on-gives _ _ _ (block-gives s 0) (λ b. need-gives _ _ _ _ refl (need-gives _ _ _ _ refl (need-gives _ _ _ _ refl (ok-gives _ _))))

head-gives : (edition : ℕ) (b : List ℕ) → Plain numbers.frame (head_of edition b)
unfolding head_of sized_head listed
head-gives edition b =
    need-gives _ _ _ _ refl
    (need-gives _ _ _ _ refl (need-gives _ _ _ _ refl (need-gives _ _ _ _ refl (need-gives _ _ _ _ refl (ok-gives _ _)))))

turn-gives : (s : List ℕ) (c : Cursor) → Gives numbers.frame (next_of s c)
unfolding next_of by_kind as_page as_end listed
turn-gives s c =
    page-gives numbers.frame _ _
    (on-gives _ _ _ (block-gives s c.at) (λ b.
    cond-gives _ (eqb b.kind 2) _ _ (need-gives _ _ _ _ refl (on-gives _ _ _ (head-gives c.edition _) (λ h. ok-gives _ _)))
    (cond-gives _ (eqb b.kind 3) _ _
    (need-gives _ _ _ _ refl (need-gives _ _ _ _ refl (need-gives _ _ _ _ refl (ok-gives _ _)))) (refused-gives _ _ refl))))

walk-gives : (n : ℕ) (s : List ℕ) (c : Cursor) → Gives numbers.frame (walk n s c)
unfolding walk listed
walk-gives zero s c = refused-gives _ _ refl
walk-gives (suc n) s c = on-gives _ _ _ (turn-gives s c) (λ t. go (λ p. walk-gives n s p.next) t)
  where
    go : ((p : PageAt) → Gives numbers.frame (walk n s p.next)) → (t : NextBlock)
        → Gives numbers.frame (page_or_end t (λ p. on (walk n s p.next) (λ ps. ok (framed.page_of s p ∷ ps))) (ok []))
    go g (turn.page p) = on-gives _ _ _ (g p) (λ ps. ok-gives _ _)
    go g turn.end = ok-gives _ _

pub frame-gives : (s : List ℕ) → Gives numbers.frame (frame_of s)
unfolding frame_of
frame-gives s = on-gives _ _ _ (plain-gives numbers.frame _ (first_gives s)) (λ c. on-gives _ _ _ (walk-gives 1025 s c) (λ ps. ok-gives _ _))

-- ---- a page's contents, and the full check

pub outlines-give : (Such : Refusal → Type 0) (os : List Outline) (xs ys : List ℕ) → Such (because 12) → Such (because 13) → Such (because 14) → Such (because 15)
    → Refuses Such (outline_rules os xs ys)
unfolding outline_rules finite_rule ring_rule grid_rule turn_rule
outlines-give Such os xs ys a b c d =
    on-gives _ _ _ (rule-gives _ _ _ a) (λ _. on-gives _ _ _ (rule-gives _ _ _ b) (λ _. on-gives _ _ _ (rule-gives _ _ _ c) (λ _. rule-gives _ _ _ d)))

vertices-give : (h : Head) (b : List ℕ) → Plain numbers.column_bits (vertices_of h b)
unfolding vertices_of
vertices-give h b = on-gives _ _ _ (column-gives Axis.x _ (decode-gives 64 _ h.v)) (λ xs. on-gives _ _ _ (column-gives Axis.y _ (decode-gives 64 _ h.v)) (λ ys. ok-gives _ _))

pub contents-give : (h : Head) (b : List ℕ) → Plain numbers.contents (contents_of h b)
unfolding contents_of parts_rule box_rule listed all_of
contents-give h b =
    on-gives _ _ _ (rule-gives _ _ _ refl) (λ _.
    on-gives _ _ _ (plainer numbers.column_bits numbers.contents refl _ (vertices-give h b)) (λ t.
    on-gives _ _ _ (outlines-give _ _ t.xs t.ys refl refl refl refl) (λ _.
    on-gives _ _ _ (rule-gives _ _ _ refl) (λ _. ok-gives _ _))))

pub pages-give : (ps : List Page) (k : ℕ) → Gives numbers.contents (pages_of k ps)
unfolding pages_of
pages-give [] k = ok-gives _ _
pages-give (p ∷ ps) k =
    on-gives _ _ _ (page-gives numbers.contents k _ (contents-give p.head p.body)) (λ here. on-gives _ _ _ (pages-give ps (suc k)) (λ rest. ok-gives _ _))

pub check-gives : (s : List ℕ) → Gives numbers.check (check_of s)
unfolding check_of listed all_of
check-gives s =
    on-gives _ _ _ (wider numbers.frame numbers.check refl _ (frame-gives s)) (λ f.
    on-gives _ _ _ (wider numbers.contents numbers.check refl _ (pages-give f.pages 0)) (λ _. ok-gives _ _))

-- ---- the search

pub met-gives : (a : Ask) (ps : List Page) (k n : ℕ) → Gives numbers.contents (met_of a k n ps)
unfolding met_of page_hits
met-gives a [] k n = ok-gives _ _
met-gives a (p ∷ ps) k n =
    on-gives _ _ _
    (cond-gives _ (opens a p.head.v (patterns p.head.stored)) _ _
    (on-gives _ _ _ (page-gives numbers.contents k _ (contents-give p.head p.body)) (λ here. ok-gives _ _)) (ok-gives _ [])) (λ here.
    on-gives _ _ _ (met-gives a ps (suc k) (n + p.head.g)) (λ rest. ok-gives _ _))

hits-give : (a : Ask) (s : List ℕ) → Gives numbers.count (hits_of a s)
unfolding hits_of met_in listed all_of
hits-give a s =
    on-gives _ _ _ (rule-gives _ _ _ refl) (λ _.
    on-gives _ _ _ (wider numbers.frame numbers.count refl _ (frame-gives s)) (λ f.
    wider numbers.contents numbers.count refl _ (met-gives a f.pages 0 0)))

pub count_gives : (a : Ask) (s : List ℕ) → Gives numbers.count (count_of a s)
unfolding count_of
count_gives a s = on-gives _ _ _ (hits-give a s) (λ l. ok-gives _ _)

pub search-gives : (a : Ask) (s : List ℕ) (room : ℕ) → Gives numbers.search (search_of a s room)
unfolding search_of listed all_of
search-gives a s room =
    on-gives _ _ _ (wider numbers.count numbers.search refl _ (hits-give a s)) (λ l. need-gives _ _ _ _ refl (ok-gives _ _))

-- ---- fetch

pub seek-gives : (ps : List Page) (k n : ℕ) → Plain numbers.no_shape (seek_in k n ps)
unfolding seek_in listed
seek-gives [] k n = refused-gives _ _ refl
seek-gives (p ∷ ps) k n = cond-gives _ (ltb n p.head.g) _ _ (ok-gives _ _) (seek-gives ps (suc k) (n - p.head.g))

seat-gives : (s : List ℕ) (n : ℕ) → Gives numbers.place (seat_of s n)
unfolding seat_of listed all_of
seat-gives s n = on-gives _ _ _ (wider numbers.frame numbers.place refl _ (frame-gives s)) (λ f. widened numbers.no_shape numbers.place refl _ (seek-gives f.pages 0 n))

pub nth-gives : (n : ℕ) (l : List Shape) → Plain numbers.no_shape (shape_at n l)
unfolding shape_at listed
nth-gives n [] = refused-gives _ _ refl
nth-gives zero (x ∷ l) = ok-gives _ _
nth-gives (suc n) (x ∷ l) = nth-gives n l

-- whatever the rooms
pub shape-gives : (s : List ℕ) (n : ℕ) → Gives numbers.fetch (shape_in s n)
unfolding shape_in shape_of listed all_of
shape-gives s n =
    on-gives _ _ _ (wider numbers.place numbers.fetch refl _ (seat-gives s n)) (λ t.
    on-gives _ _ _ (wider numbers.contents numbers.fetch refl _ (page-gives numbers.contents t.page _ (contents-give t.held.head t.held.body))) (λ here.
    widened numbers.no_shape numbers.fetch refl _ (nth-gives t.index here)))

pub fetch-gives : (s : List ℕ) (n : ℕ) (r : Rooms) → Gives numbers.fetch (fetch_of s n r)
unfolding fetch_of in_rooms listed
fetch-gives s n r = on-gives _ _ _ (shape-gives s n) (λ sh. need-gives _ _ _ _ refl (ok-gives _ _))

pub each-row-gives : (ps : List Page) (ns : List ℕ) → Plain numbers.no_shape (rows_at ps ns)
unfolding rows_at
each-row-gives ps [] = ok-gives _ _
each-row-gives ps (n ∷ ns) = on-gives _ _ _ (seek-gives ps 0 n) (λ t. on-gives _ _ _ (each-row-gives ps ns) (λ rs. ok-gives _ _))

pub rows-give : (s places : List ℕ) (registers types : ℕ) → Gives numbers.rows (rows_of s places registers types)
unfolding rows_of rows_in listed all_of
rows-give s places registers types =
    on-gives _ _ _
    (on-gives _ _ _ (wider numbers.frame numbers.rows refl _ (frame-gives s)) (λ f. widened numbers.no_shape numbers.rows refl _ (each-row-gives f.pages places)))
    (λ rs. need-gives _ _ _ _ refl (ok-gives _ _))

-- ---- the writer

pub open_gives : (room : ℕ) → Plain numbers.writer_open (open_of room)
unfolding open_of put_at listed
open_gives room = need-gives _ _ _ _ refl (ok-gives _ _)

rules-give : (i : Handed) → Plain numbers.page_block (page_rules i)
unfolding page_rules counts_rule parts_rule listed
rules-give i =
    on-gives _ _ _ (rule-gives _ _ _ refl) (λ _.
    on-gives _ _ _ (rule-gives _ _ _ refl) (λ _. outlines-give _ _ i.xs i.ys refl refl refl refl))

bytes-give : (ed : ℕ) (i : Handed) → Plain numbers.page_block (page_written ed i)
unfolding page_written
bytes-give ed i = on-gives _ _ _ (rules-give i) (λ _. ok-gives _ _)

pub page-block-gives : (ed room : ℕ) (i : Handed) → Plain numbers.page_block (page_block_of ed room i)
unfolding page_block_of room_for listed
page-block-gives ed room i = on-gives _ _ _ (bytes-give ed i) (λ bytes. need-gives _ _ _ _ refl (ok-gives _ _))

pub page-step-gives : (st : Writer) (room : ℕ) (i : Handed) → Plain numbers.writer_page (page_step_of st room i)
unfolding page_step_of open_rule pages_rule put_at listed all_of
page-step-gives st room i =
    on-gives _ _ _ (rule-gives _ _ _ refl) (λ _.
    on-gives _ _ _ (rule-gives _ _ _ refl) (λ _.
    on-gives _ _ _ (plainer numbers.page_block numbers.writer_page refl _ (bytes-give the_edition i)) (λ bytes. need-gives _ _ _ _ refl (ok-gives _ _))))

pub close-gives : (st : Writer) (room : ℕ) → Plain numbers.writer_close (close_of st room)
unfolding close_of open_rule totals_rule put_at listed
close-gives st room =
    on-gives _ _ _ (rule-gives _ _ _ refl) (λ _. on-gives _ _ _ (rule-gives _ _ _ refl) (λ _. need-gives _ _ _ _ refl (ok-gives _ _)))
