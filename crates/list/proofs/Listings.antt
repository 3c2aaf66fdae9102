-- Shown here: what the code says of an input is what its definition lists, one law for each return. Nothing is assumed.
use Prim.Native.Nat.{ℕ, ◌-◌, ◌≤◌, ◌<◌}
use mathlib.Core.Path.{◌≡◌, refl, sym, ap, ap₂, ◌∙◌, subst}
use mathlib.Core.List.{List, ◌++◌, map}
use native.Mathlib.Omega.{arith}
use borrow.Author.Tests.{leb-true, le-leb, lt-leb}
use lib.Dec.{leb}
use lib.ListN.{length, take, drop, length-append, length-map, length-drop}
use lib.Seq.{take_at, take_all, length-take-le}
use Rattle.answer.specs.Table as table
use Rattle.answer.specs.declared.Refusal.{Refusal}
use Rattle.answer.specs.Refusal.{because}
use Rattle.answer.specs.Outcome.{Out, refused, ok, on, Fills}
use Rattle.answer.proofs.Outcomes.{ok-inj, met, unmet, need-ok, on-ok, filled-refused, filled-start}
use Rattle.answer.proofs.Orders.{on-refused, on_value, on-stopped}
use Rattle.query.specs.declared.ask.Ask.{Ask}
use Rattle.query.specs.Block.{block_len, ask_of}
use Rattle.frame.specs.declared.walk.Totals.{Totals}
use Rattle.frame.specs.Frame.{frame_of, totals_of, shapes_of}
use Rattle.frame.proofs.Walks.{sound-said, frame-refusal-said}
use Rattle.place.specs.declared.row.Row.{Row}
use Rattle.list.specs.declared.listing.Rows.{Rows}
use Rattle.place.specs.Rows.{rows_in, rows_of, registers_from, types_from}
use Rattle.place.proofs.Places.{rows-framed, rows-refused, room-both}
use Rattle.search.specs.Search.{hits_of, search_of}
use Rattle.list.specs.Listing.{Listing, listing, listing_with, listing_at, listing_for, listing_behind, listing_of, said_listed, Lists}

-- ---- an answer

-- a refusal is that of the outcome
pub lists-refused : {o : Out Listing} {places registers types : List ℕ} (w : Refusal) → o ≡ refused w → Lists o (refused w) places registers types
unfolding said_listed
lists-refused w e = record {
  said = sym e;
  places_fit = λ x r. absurd (let z : ◌≡◌ {A = ℕ} 0 1 = cc in omega arith);
  registers_fit = λ x r. absurd (let z : ◌≡◌ {A = ℕ} 0 1 = cc in omega arith);
  types_fit = λ x r. absurd (let z : ◌≡◌ {A = ℕ} 0 1 = cc in omega arith);
}

-- what lists one outcome lists another that is the same
pub lists-same : {o q : Out Listing} {says : Out Rows} {places registers types : List ℕ} → o ≡ q → Lists o says places registers types → Lists q says places registers types
lists-same {says = says} {places = places} {registers = registers} {types = types} e l = subst (λ (x : Out Listing). Lists x says places registers types) e l

-- and back: what an answer tells of the outcome
module _ {o : Out Listing} {says : Out Rows} {places registers types : List ℕ} (l : Lists o says places registers types) where
  pub refused-said : (w : Refusal) → says ≡ refused w → o ≡ refused w
  unfolding said_listed
  refused-said w e = sym l.said ∙ ap (λ (x : Out Rows). said_listed x places registers types) e

  pub rows-said : (r : Rows) → says ≡ ok r → o ≡ ok (listing (take r.hits places) (take r.hits registers) (take r.hits types) r.shapes)
  unfolding said_listed
  rows-said r e = sym l.said ∙ ap (λ (x : Out Rows). said_listed x places registers types) e

-- ---- hits, with their rows

-- with room for all rows, they are those of the places
roomy : (file places : List ℕ) (a b : ℕ) → length places ≤ a → length places ≤ b → rows_of file places a b ≡ rows_in file places
roomy file places a b h k = go (rows_in file places) refl
  where
    go : (o : Out (List Row)) → rows_in file places ≡ o → rows_of file places a b ≡ rows_in file places
    go (refused w) e = rows-refused file places a b w e ∙ sym e
    go (ok rs) e = room-both file places a b rs e h k

-- rows that stand in two rooms, for the first n places of a third
record RowsFor (file P : List ℕ) (n : ℕ) (er et : List ℕ) : Type 0 where
  pub rows : List Row
  pub all : rows_in file (take n P) ≡ ok rows
  pub registers : take n er ≡ map (λ (r : Row). r.register) rows
  pub types : take n et ≡ map (λ (r : Row). r.kind) rows
  pub registers_fit : n ≤ length er
  pub types_fit : n ≤ length et

module _ (file P : List ℕ) (n : ℕ) (dr dt er et : List ℕ) (hp : n ≤ length P) (hr : n ≤ length dr) (ht : n ≤ length dt) (r : Out ℕ)
    (fr : Fills (registers_from (rows_of file (take n P) (length dr) (length dt))) dr r er)
    (ft : Fills (types_from (rows_of file (take n P) (length dr) (length dt))) dt r et) where
  long : length (take n P) ≡ n
  long = length-take-le n P hp

  with-room : rows_of file (take n P) (length dr) (length dt) ≡ rows_in file (take n P)
  with-room = roomy file (take n P) (length dr) (length dt) (omega (arith, long)) (omega (arith, long))

  pub places-refused : (w : Refusal) → r ≡ refused w → Lists (listing_at file (take n P)) (refused w) P er et
  unfolding registers_from listing_at
  places-refused w e =
      let x = filled-refused _ dr w er (subst (λ (q : Out ℕ). Fills (registers_from (rows_of file (take n P) (length dr) (length dt))) dr q er) e fr) in
      lists-refused w (on-refused (rows_in file (take n P)) _ w (sym with-room ∙ on-stopped (rows_of file (take n P) (length dr) (length dt)) _ w x.0))

  rowed : (m : ℕ) → r ≡ ok m → RowsFor file P n er et
  unfolding registers_from types_from
  rowed m e =
      let o = rows_of file (take n P) (length dr) (length dt) in
      let x = filled-start (registers_from o) dr m er (subst (λ (q : Out ℕ). Fills (registers_from o) dr q er) e fr) in
      let y = filled-start (types_from o) dt m et (subst (λ (q : Out ℕ). Fills (types_from o) dt q et) e ft) in
      let u = on-ok o _ x.0 x.1 in
      let v = on-ok o _ y.0 y.1 in
      let same : v.0 ≡ u.0 = ok-inj (sym v.1 ∙ u.1) in
      let found : rows_in file (take n P) ≡ ok u.0 = sym with-room ∙ u.1 in
      let many : length u.0 ≡ n = (rows-framed file (take n P) u.0 found).2.long ∙ long in
      let rs : x.0 ≡ map (λ (q : Row). q.register) u.0 = sym (ok-inj u.2) in
      let ts : y.0 ≡ map (λ (q : Row). q.kind) u.0 = sym (ok-inj v.2) ∙ ap (map (λ (q : Row). q.kind)) same in
      let nr : length x.0 ≡ n = ap length rs ∙ length-map u.0 (λ (q : Row). q.register) ∙ many in
      let nt : length y.0 ≡ n = ap length ts ∙ length-map u.0 (λ (q : Row). q.kind) ∙ many in
      record {
        rows = u.0;
        all = found;
        registers = ap (take n) x.3 ∙ take_at x.0 (drop m dr) n nr ∙ rs;
        types = ap (take n) y.3 ∙ take_at y.0 (drop m dt) n nt ∙ ts;
        registers_fit = omega (arith, nr, ap length x.3, length-append x.0 (drop m dr));
        types_fit = omega (arith, nt, ap length y.3, length-append y.0 (drop m dt));
      }

  module _ (m : ℕ) (e : r ≡ ok m) (c : Out Totals) (q : c ≡ on (frame_of file) (λ f. ok (totals_of f))) where
    pub places-frame : (w : Refusal) → c ≡ refused w → Lists (listing_at file (take n P)) (refused w) P er et
    unfolding listing_at
    places-frame w h =
        let a = rowed m e in
        lists-refused w (on_value (rows_in file (take n P)) _ a.rows a.all ∙ on-refused (frame_of file) _ w (frame-refusal-said file c q w h))

    pub places-listed : (t : Totals) → c ≡ ok t → Lists (listing_at file (take n P)) (ok (record { hits = n; shapes = t.shapes })) P er et
    unfolding listing_at said_listed
    places-listed t h =
        let a = rowed m e in
        let f = sound-said file c q t h in
        let shapes : t.shapes ≡ shapes_of f.0.pages = sym (ap (λ (x : Totals). x.shapes) f.2) in
        record {
          said =
              ap₂ (λ (x y : List ℕ). ok (listing (take n P) x y t.shapes)) a.registers a.types
              ∙ ap (λ (x : ℕ). ok (listing_with (take n P) a.rows x)) shapes
              ∙ sym (on_value (rows_in file (take n P)) _ a.rows a.all ∙ on_value (frame_of file) _ f.0 f.1);
          places_fit = λ x g. let z : n ≡ x.hits = ap (λ (y : Rows). y.hits) (ok-inj g) in omega arith;
          registers_fit = λ x g. let z : n ≡ x.hits = ap (λ (y : Rows). y.hits) (ok-inj g) in omega (arith, a.registers_fit);
          types_fit = λ x g. let z : n ≡ x.hits = ap (λ (y : Rows). y.hits) (ok-inj g) in omega (arith, a.types_fit);
        }

-- ---- the search

module _ (a : Ask) (file d P : List ℕ) (r : Out ℕ) (f : Fills (search_of a file (length d)) d r P) (h : length d ≡ 4096) where
  searched : {A : Type 0} (g : Out (List ℕ) → A) → g (search_of a file (length d)) ≡ g (search_of a file 4096)
  searched g = ap (λ (k : ℕ). g (search_of a file k)) h

  pub hits-refused : (w : Refusal) {er et : List ℕ} → r ≡ refused w → Lists (listing_for a file) (refused w) P er et
  unfolding listing_for
  hits-refused w e =
      let x = filled-refused _ d w P (subst (λ (q : Out ℕ). Fills (search_of a file (length d)) d q P) e f) in
      lists-refused w (on-refused (search_of a file 4096) _ w (sym (searched (λ o. o)) ∙ x.0))

  module _ (n : ℕ) (e : r ≡ ok n) where
    hits : (l : List ℕ) × (search_of a file (length d) ≡ ok l) × (n ≡ length l) × (P ≡ l ++ drop n d)
    hits = filled-start _ d n P (subst (λ (q : Out ℕ). Fills (search_of a file (length d)) d q P) e f)

    -- they lie within the room
    pub hits-fit : n ≤ length P
    hits-fit = let x = hits in omega (arith, x.2, ap length x.3, length-append x.0 (drop n d))

    -- what they list is listed
    pub hits-listed : {says : Out Rows} {er et : List ℕ} → Lists (listing_at file (take n P)) says P er et → Lists (listing_for a file) says P er et
    unfolding listing_for
    hits-listed l =
        let x = hits in
        let front : take n P ≡ x.0 = ap (take n) x.3 ∙ take_at x.0 (drop n d) n (sym x.2) in
        lists-same (ap (listing_at file) front ∙ sym (on_value (search_of a file 4096) (listing_at file) x.0 (sym (searched (λ o. o)) ∙ x.1))) l

-- ---- the input

module _ (input : List ℕ) where
  -- the block's form comes first
  pub block_refused : (w : Refusal) → block_len input ≡ refused w → listing_of input ≡ refused w
  unfolding listing_of
  block_refused w e = on-refused (block_len input) _ w e

  pub block-found : (n : ℕ) → block_len input ≡ ok n → listing_of input ≡ listing_behind input n
  unfolding listing_of
  block-found n e = on_value (block_len input) (listing_behind input) n e

  -- then the file's size
  module _ (n : ℕ) where
    pub size-many : 40960 < length (drop n input) → listing_behind input n ≡ refused (because table.many)
    unfolding listing_behind
    size-many h = unmet (because table.many) _ (lt-leb (length (drop n input)) 40960 h)

    pub size-within : length (drop n input) ≤ 40960 → listing_behind input n ≡ on (ask_of (take n input)) (λ a. listing_for a (drop n input))
    unfolding listing_behind
    size-within h = met (because table.many) _ (le-leb (length (drop n input)) 40960 h)

-- as the code is told
module _ (input : List ℕ) (n : ℕ) where
  pub behind-many : {P er et : List ℕ} → 40960 < length input - n → Lists (listing_behind input n) (refused (because table.many)) P er et
  behind-many k = lists-refused (because table.many) (size-many input n (omega (arith, length-drop n input)))

  module _ (k : length input - n ≤ 40960) (r : Out Ask) (q : r ≡ ask_of (take n input)) where
    within : listing_behind input n ≡ on (ask_of (take n input)) (λ a. listing_for a (drop n input))
    within = size-within input n (omega (arith, length-drop n input))

    pub behind-refused : (w : Refusal) {P er et : List ℕ} → r ≡ refused w → Lists (listing_behind input n) (refused w) P er et
    behind-refused w e = lists-refused w (within ∙ on-refused (ask_of (take n input)) _ w (sym q ∙ e))

    -- the file is all that stands behind the block
    pub behind-asked : (a : Ask) {says : Out Rows} {P er et : List ℕ} → r ≡ ok a → Lists (listing_for a (take (length input - n) (drop n input))) says P er et
        → Lists (listing_behind input n) says P er et
    behind-asked a e l =
        let all : take (length input - n) (drop n input) ≡ drop n input = take_all (length input - n) (drop n input) (omega (arith, length-drop n input)) in
        lists-same (ap (listing_for a) all ∙ sym (within ∙ on_value (ask_of (take n input)) _ a (sym q ∙ e))) l

module _ (input : List ℕ) (r : Out ℕ) (q : r ≡ block_len input) where
  pub input-refused : (w : Refusal) {P er et : List ℕ} → r ≡ refused w → Lists (listing_of input) (refused w) P er et
  input-refused w e = lists-refused w (block_refused input w (sym q ∙ e))

  pub input-block : (n : ℕ) → r ≡ ok n → block_len input ≡ ok n
  input-block n e = sym q ∙ e

  pub input-listed : (n : ℕ) {says : Out Rows} {P er et : List ℕ} → r ≡ ok n → Lists (listing_behind input n) says P er et → Lists (listing_of input) says P er et
  input-listed n e l = lists-same (sym (block-found input n (input-block n e))) l

-- ---- what is listed

-- at most 4,096 places
pub listed-few : (input : List ℕ) (l : Listing) → listing_of input ≡ ok l → length l.places ≤ 4096
unfolding listing_of listing_behind listing_for listing_at search_of
listed-few input l e =
    let block = on-ok (block_len input) _ l e in
    let size = need-ok _ (because table.many) _ l block.2 in
    let query = on-ok (ask_of (take block.0 input)) _ l size.1 in
    let hits = on-ok (search_of query.0 (drop block.0 input) 4096) _ l query.2 in
    let room = on-ok (hits_of query.0 (drop block.0 input)) _ hits.0 hits.1 in
    let few = need-ok (leb (length room.0) 4096) (because table.room) (ok room.0) hits.0 room.2 in
    let rows = on-ok (rows_in (drop block.0 input) hits.0) _ l hits.2 in
    let frame = on-ok (frame_of (drop block.0 input)) _ l rows.2 in
    let same : l.places ≡ room.0 = sym (ap (λ (x : Listing). x.places) (ok-inj frame.2)) ∙ sym (ok-inj few.1) in
    omega (arith, ap length same, leb-true (length room.0) 4096 few.0)
