-- Which refusal numbers a service can give: the lists of document 01's "Order"; and by which of them a refusal may name a column and a value. Assumes
-- nothing.
use Rattle.std.specs.Prelude.{ℕ, ◌≡◌, Bool, true, ◌&&◌, ◌||◌, List, [], ◌∷◌, ◌++◌, eqb}
use Rattle.answer.specs.declared.Refusal.{Refusal}
use Rattle.answer.specs.Axis as Axis
use Rattle.answer.specs.Outcome.{Out}
use Rattle.search.specs.Listed.{listed}
use Rattle.promises.specs.Refusing.{Refuses}

-- a column's bits: 8, 9, 10
abbrev pub column_bits : List ℕ
column_bits = 8 ∷ 9 ∷ 10 ∷ []

-- "other refusals give index 0 and no column"
abbrev pub tidy : Refusal → Bool
tidy w = listed w.number column_bits || (eqb w.column Axis.none && eqb w.index 0)

-- a refusal by one of these numbers
abbrev pub IsBy : List ℕ → Refusal → Type 0
IsBy ns w = (listed w.number ns && tidy w) ≡ true

-- and which concerns no page: its page number is 0
abbrev pub IsPlain : List ℕ → Refusal → Type 0
IsPlain ns w = (listed w.number ns && (eqb w.page 0 && tidy w)) ≡ true

-- whatever refusal an outcome is, its number is one of these
abbrev pub Gives : {A : Type 0} → List ℕ → Out A → Type 0
Gives ns o = Refuses (IsBy ns) o

-- the same, and its page number is 0
abbrev pub Plain : {A : Type 0} → List ℕ → Out A → Type 0
Plain ns o = Refuses (IsPlain ns) o

-- "Column write: 3, 2"
abbrev pub column_write : List ℕ
column_write = 3 ∷ 2 ∷ []

-- "Column read: 3, 2, then 8, 9, 10"
abbrev pub column_read : List ℕ
column_read = 3 ∷ 2 ∷ column_bits

-- one value a call: "end, or 3, 8, 9 or 10"
abbrev pub column_step : List ℕ
column_step = 3 ∷ column_bits

-- "Frame, block by block": 3, 4, 5, 6, 7
abbrev pub frame : List ℕ
frame = 3 ∷ 4 ∷ 5 ∷ 6 ∷ 7 ∷ []

-- "Page contents: 11, x column, y column, 12, 13, 14, 15, 16"
abbrev pub contents : List ℕ
contents = 11 ∷ column_bits ++ (12 ∷ 13 ∷ 14 ∷ 15 ∷ 16 ∷ [])

-- "Full check: frame, then each page's contents"
abbrev pub check : List ℕ
check = frame ++ contents

-- "Search: 1, frame, contents of each page whose box meets the query, in order, then 2"
abbrev pub search : List ℕ
search = 1 ∷ check ++ (2 ∷ [])

-- "A count-only search gives the number of hits and never 2"
abbrev pub count : List ℕ
count = 1 ∷ check

-- no shape at that place
abbrev pub no_shape : List ℕ
no_shape = 17 ∷ []

-- a shape's place: frame, 17
abbrev pub place : List ℕ
place = frame ++ no_shape

-- "Fetch: frame, 17, contents of its page, 2"
abbrev pub fetch : List ℕ
fetch = place ++ contents ++ (2 ∷ [])

-- rows for a list of places: frame, 17, 2
abbrev pub rows : List ℕ
rows = place ++ (2 ∷ [])

-- a page's block, with a room of its own: 6, 11, 12, 13, 14, 15, 2
abbrev pub page_block : List ℕ
page_block = 6 ∷ 11 ∷ 12 ∷ 13 ∷ 14 ∷ 15 ∷ 2 ∷ []

-- "Writer: open (2)"
abbrev pub writer_open : List ℕ
writer_open = 2 ∷ []

-- "page (18, 3, 6, 11, 12, 13, 14, 15, 2)"
abbrev pub writer_page : List ℕ
writer_page = 18 ∷ 3 ∷ page_block

-- "close (18, 3, 2)"
abbrev pub writer_close : List ℕ
writer_close = 18 ∷ 3 ∷ 2 ∷ []

-- one value a call through four words: 2 where there are fewer, and then as one value a call
abbrev pub step_through_words : List ℕ
step_through_words = 2 ∷ column_step
