-- What an input lists: "An input too short for its query block, or another kind or length, is 1; then comes 3 for the file's size, then the order of the
-- search." Assumes nothing.
use Rattle.std.specs.Prelude.{ℕ, ◌≤◌, ◌≡◌, List, map, length, take, drop, leb}
use Rattle.answer.specs.Limits.{most_input}
use Rattle.answer.specs.Table.{many}
use Rattle.answer.specs.Refusal.{because}
use Rattle.answer.specs.Outcome.{Out, refused, ok, need, on}
use Rattle.query.specs.declared.ask.Ask.{Ask}
use Rattle.query.specs.Block.{block_len, ask_of}
use Rattle.frame.specs.Frame.{frame_of, shapes_of}
use Rattle.place.specs.declared.row.Row.{Row}
use Rattle.place.specs.Rows.{rows_in}
use Rattle.search.specs.Search.{search_of}
use Rattle.list.specs.declared.listing.Rows.{Rows}

-- "the listing program has room for 4,096 hits"
abbrev pub most_hits : ℕ
most_hits = 4096

-- bytes that are read of an input: one more than the longest query block and the largest file take
abbrev pub most_read : ℕ
most_read = 40999

-- a listing: the places of the hits, the register and the type at each, and how many shapes the file has in all
pub record Listing : Type 0 where
  pub places : List ℕ
  pub registers : List ℕ
  pub types : List ℕ
  pub shapes : ℕ

-- by its parts
abbrev pub listing : List ℕ → List ℕ → List ℕ → ℕ → Listing
listing places registers types shapes = record { places = places; registers = registers; types = types; shapes = shapes }

-- of hits with their rows, in a file of so many shapes
abbrev pub listing_with : List ℕ → List Row → ℕ → Listing
listing_with places rs shapes = listing places (map (λ (r : Row). r.register) rs) (map (λ (r : Row). r.kind) rs) shapes

-- what hits list in a file: their rows, and "M all shapes in the file"
unfoldable pub listing_at : List ℕ → List ℕ → Out Listing
listing_at file places =
    on (rows_in file places) (λ rs.
    on (frame_of file) (λ f.
    ok (listing_with places rs (shapes_of f.pages))))

-- what is asked of a file: the search, with that much room, and what its hits list
unfoldable pub listing_for : Ask → List ℕ → Out Listing
listing_for a file = on (search_of a file most_hits) (listing_at file)

-- an input whose query block takes n bytes, the file behind it: its size, what the block asks, what that lists
unfoldable pub listing_behind : List ℕ → ℕ → Out Listing
listing_behind input n =
    need (leb (length (drop n input)) most_input) (because many)
    (on (ask_of (take n input)) (λ a.
    listing_for a (drop n input)))

-- an input: the block's form first
unfoldable pub listing_of : List ℕ → Out Listing
listing_of input = on (block_len input) (listing_behind input)

-- the three rooms that such a call is lent have each as much
pub record Rooms (places registers types : List ℕ) : Type 0 where
  pub for_places : length places ≡ most_hits
  pub for_registers : length registers ≡ most_hits
  pub for_types : length types ≡ most_hits

-- what the code's answer says, with the three rooms
unfoldable pub said_listed : Out Rows → List ℕ → List ℕ → List ℕ → Out Listing
said_listed (ok r) places registers types = ok (listing (take r.hits places) (take r.hits registers) (take r.hits types) r.shapes)
said_listed (refused w) places registers types = refused w

-- the contract of such a call: it says the outcome o, and its hits lie within each room
pub record Lists (o : Out Listing) (says : Out Rows) (places registers types : List ℕ) : Type 0 where
  pub said : said_listed says places registers types ≡ o
  pub places_fit : (r : Rows) → says ≡ ok r → r.hits ≤ length places
  pub registers_fit : (r : Rows) → says ≡ ok r → r.hits ≤ length registers
  pub types_fit : (r : Rows) → says ≡ ok r → r.hits ≤ length types
