-- Demand 1: "Every service takes every input and ends. Bad input is refused by one number from the table, with its page, in the given order. A refused call
-- changes no byte lent to it and leaves a half-written file at the same point."
-- That a service takes every input and ends is its check: none has a `requires`. Its order is that of its definition, which its contract says it meets.
-- Here: of two runs that meet a contract all is the same, so that nothing is left open; and what a refusal leaves. Nothing is assumed.
use Prim.Native.Nat.{ℕ}
use mathlib.Core.Path.{◌≡◌, sym, ap, ◌∙◌}
use mathlib.Core.List.{List}
use lib.ListN.{length}
use Rattle.answer.specs.declared.Refusal.{Refusal}
use Rattle.answer.specs.Outcome.{Out, refused, ok, on, filled, answered, Fills}
use Rattle.answer.proofs.Determined.{determined}
use Rattle.column.specs.Write.{write_of}
use Rattle.column.specs.Read.{read_of}
use Rattle.query.specs.declared.ask.Ask.{Ask}
use Rattle.shape.specs.Outline.{Shape}
use Rattle.frame.specs.declared.walk.Totals.{Totals}
use Rattle.frame.specs.Frame.{frame_of, totals_of}
use Rattle.frame.proofs.Walks.{said-checked-one}
use Rattle.pageblock.specs.Body.{Handed}
use Rattle.pageblock.specs.Page.{page_block_of}
use Rattle.writer.specs.declared.Writer.{Writer}
use Rattle.writer.specs.declared.Stepped.{Stepped}
use Rattle.writer.specs.State.{Added, state_after, buffer_after, Steps}
use Rattle.writer.proofs.Determined as writer
use Rattle.file.specs.Check.{check_of}
use Rattle.search.specs.Search.{search_of, count_of}
use Rattle.search.proofs.Services.{said-count-one}
use Rattle.fetch.specs.declared.fetch.Found.{Found}
use Rattle.fetch.specs.Fetch.{Rooms, fetch_of, answer_of, list_of, Fetches}
use Rattle.place.specs.declared.row.Row.{Row}
use Rattle.place.specs.Rows.{registers_from, types_from}
use Rattle.fetch.proofs.Determined as fetched
use Rattle.fetch.proofs.Determined.{fetch-determined}

-- ---- two runs of a service on the same input

-- the column written: values vs, room d
pub write-determined : (vs d : List ℕ) {r r' : Out ℕ} {e e' : List ℕ} → Fills (write_of 64 vs (length d)) d r e → Fills (write_of 64 vs (length d)) d r' e' → (r ≡ r') × (e ≡ e')
write-determined vs d = determined

-- the column read: bytes s, n values, room d
pub read-determined : (s d : List ℕ) (n : ℕ) {r r' : Out ℕ} {e e' : List ℕ} → Fills (read_of 64 s n (length d)) d r e → Fills (read_of 64 s n (length d)) d r' e' → (r ≡ r') × (e ≡ e')
read-determined s d n = determined

-- the search: query a, file s, list d
pub search-determined : (a : Ask) (s d : List ℕ) {r r' : Out ℕ} {e e' : List ℕ} → Fills (search_of a s (length d)) d r e → Fills (search_of a s (length d)) d r' e' → (r ≡ r') × (e ≡ e')
search-determined a s d = determined

-- a page's block: what was handed in, room d
pub block-determined : (ed : ℕ) (i : Handed) (d : List ℕ) {r r' : Out ℕ} {e e' : List ℕ} → Fills (page_block_of ed (length d) i) d r e → Fills (page_block_of ed (length d) i) d r' e' → (r ≡ r') × (e ≡ e')
block-determined ed i d = determined

-- the frame, the full check, and the count
pub frame-determined : (s : List ℕ) (r r' : Out Totals) → r ≡ on (frame_of s) (λ f. ok (totals_of f)) → r' ≡ on (frame_of s) (λ f. ok (totals_of f)) → r ≡ r'
frame-determined s r r' p q = said-checked-one p q

pub check-determined : (s : List ℕ) (r r' : Out Totals) → r ≡ check_of s → r' ≡ check_of s → r ≡ r'
check-determined s r r' p q = said-checked-one p q

pub count-determined : (a : Ask) (s : List ℕ) (r r' : Out ℕ) → r ≡ count_of a s → r' ≡ count_of a s → r ≡ r'
count-determined a s r r' p q = said-count-one p q

-- fetch: file s, place n, three rooms
pub shape-determined : (s : List ℕ) (n : ℕ) (k : Rooms) (dl dx dy : List ℕ) {r r' : Out Found} {el ex ey el' ex' ey' : List ℕ}
    → Fetches (fetch_of s n k) dl dx dy r el ex ey → Fetches (fetch_of s n k) dl dx dy r' el' ex' ey' → (r ≡ r') × (el ≡ el') × (ex ≡ ex') × (ey ≡ ey')
shape-determined s n k dl dx dy = fetch-determined

-- the rows for a list of places: two rooms, one answer
pub rows-determined : (o : Out (List Row)) {dr dt : List ℕ} {r r' : Out ℕ} {er et er' et' : List ℕ}
    → Fills (registers_from o) dr r er → Fills (types_from o) dt r et → Fills (registers_from o) dr r' er' → Fills (types_from o) dt r' et'
    → (r ≡ r') × (er ≡ er') × (et ≡ et')
rows-determined = fetched.rows-determined

-- a step of the writer, open, page or close: the answer, the state in it and the buffer
pub step-determined : {o : Out Added} (st : Writer) (d : List ℕ) {r r' : Stepped} {e e' : List ℕ} → Steps o st d r e → Steps o st d r' e' → (r ≡ r') × (e ≡ e')
step-determined st d = writer.determined

-- ---- what a refusal leaves

-- a lent room: every element as it was
pub refused-leaves-room : {o : Out (List ℕ)} {d : List ℕ} {r : Out ℕ} {e : List ℕ} (w : Refusal) → o ≡ refused w → Fills o d r e → (r ≡ refused w) × (e ≡ d)
unfolding filled answered
refused-leaves-room {d = d} w h f = (f.answer ∙ ap answered h, f.room ∙ ap (λ (x : Out (List ℕ)). filled x d) h)

-- a fetch's three rooms
pub refused-fetch : {o : Out Shape} {dl dx dy : List ℕ} {r : Out Found} {el ex ey : List ℕ} (w : Refusal) → o ≡ refused w → Fetches o dl dx dy r el ex ey
    → (r ≡ refused w) × (el ≡ dl) × (ex ≡ dx) × (ey ≡ dy)
unfolding answer_of list_of on filled
refused-fetch w h f = (f.answer ∙ ap answer_of h, f.lens_room ∙ rw h, f.xs_room ∙ rw h, f.ys_room ∙ rw h)

-- a half-written file: the state, and so the position, as it came, and every byte of the buffer as it was
pub refused-step : {o : Out Added} {st : Writer} {d : List ℕ} {r : Stepped} {e : List ℕ} (w : Refusal) → o ≡ refused w → Steps o st d r e → (r.writer ≡ st) × (e ≡ d)
unfolding state_after buffer_after
refused-step {st = st} {d = d} w h f = (f.state ∙ ap (λ (x : Out Added). state_after x st) h, f.buffer ∙ ap (λ (x : Out Added). buffer_after x d) h)
