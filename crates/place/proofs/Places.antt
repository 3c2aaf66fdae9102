-- The rows at a list of places: each has one where all have a shape, else 17; and the loop that puts them, with what stands in the rooms. Assumes nothing.
use mathlib.Core.Path.{◌≡◌, refl, sym, ap, ap₂, subst, ◌∙◌}
use mathlib.Core.Bool.{Bool, true, false, ◌&&◌}
use mathlib.Core.List.{List, [], ◌∷◌, ◌++◌, map}
use Prim.Native.Nat.{ℕ, zero, suc, ◌+◌, ◌≤◌, ◌<◌}
use native.Mathlib.Omega.{arith}
use borrow.Author.Tests.{ltb-true, ltb-false, le-leb, lt-leb}
use lib.Dec.{ltb}
use lib.ListN.{length, get_or, set, take, drop, length-set, length-map, get_or-map}
use lib.Seq.{take_all}
use Rattle.answer.specs.Table as table
use Rattle.answer.specs.Refusal.{because}
use Rattle.answer.specs.declared.Refusal.{Refusal}
use Rattle.answer.specs.Outcome.{Out, refused, ok, on, Fills}
use Rattle.answer.proofs.Outcomes.{never, ok-inj, met, unmet, on-ok, fills-refused, fills-ok}
use Rattle.answer.proofs.Both.{both_l, both_r}
use Rattle.le.proofs.Copying.{copy_more}
use Rattle.answer.specs.All.{all_of}
use Rattle.answer.proofs.Alls.{all_none, all_cons}
use Rattle.frame.specs.declared.cursor.Cursor.{Cursor}
use Rattle.frame.specs.Next.{part}
use Rattle.frame.specs.declared.walk.Totals.{Totals}
use Rattle.frame.specs.Frame.{Page, Frame, shapes_of, frame_of, totals_of}
use Rattle.frame.proofs.Walks.{sound-said}
use Rattle.answer.proofs.Orders.{on-refused, on_value}
use Rattle.place.specs.declared.row.Row.{Row}
use Rattle.place.specs.declared.seek.SeatAt.{SeatAt}
use Rattle.place.specs.Seek.{Seat, seek_in, seat_of}
use Rattle.place.specs.Onward.{Onward, Seeks}
use Rattle.place.specs.Row.{row_of}
use Rattle.place.specs.Rows.{seat_row, rows_at, rows_in, rows_of, registers_from, types_from}
use Rattle.place.proofs.Seeking.{seek-beyond, seek-within}
use Rattle.place.proofs.Onwards.{seat-sound, sought-refused, sought-seat}

-- ---- among pages

abbrev pub there : List Page → ℕ → Bool
there ps n = ltb n (shapes_of ps)

module _ (ps : List Page) where
  pub rows_none : rows_at ps [] ≡ ok []
  unfolding rows_at
  rows_none = refl

  pub rows-first : (n : ℕ) (ns : List ℕ) (t : Seat) → seek_in 0 n ps ≡ ok t → rows_at ps (n ∷ ns) ≡ on (rows_at ps ns) (λ rs. ok (seat_row t ∷ rs))
  unfolding rows_at
  rows-first n ns t e = on_value (seek_in 0 n ps) _ t e

  pub rows-stop : (n : ℕ) (ns : List ℕ) (w : Refusal) → seek_in 0 n ps ≡ refused w → rows_at ps (n ∷ ns) ≡ refused w
  unfolding rows_at
  rows-stop n ns w e = on-refused (seek_in 0 n ps) _ w e

-- all have a shape: each has its row
pub rows-there : (ps : List Page) (ns : List ℕ) → all_of (there ps) ns ≡ true → (rs : List Row) × (rows_at ps ns ≡ ok rs)
rows-there ps [] e = ([], rows_none ps)
rows-there ps (n ∷ ns) e =
    let a : (there ps n && all_of (there ps) ns) ≡ true = sym (all_cons (there ps) n ns) ∙ e in
    let t = seek-within 0 n ps (ltb-true n (shapes_of ps) (both_l (there ps n) (all_of (there ps) ns) a)) in
    let r = rows-there ps ns (both_r (there ps n) (all_of (there ps) ns) a) in
    (seat_row t.0 ∷ r.0, rows-first ps n ns t.0 t.1 ∙ on_value (rows_at ps ns) _ r.0 r.1)

-- one has none: 17
pub rows-missing : (ps : List Page) (ns : List ℕ) → all_of (there ps) ns ≡ false → rows_at ps ns ≡ refused (because table.place)
rows-missing ps [] e = absurd (let z : ◌≡◌ {A = Bool} true false = sym (all_none (there ps)) ∙ e in let y : ◌≡◌ {A = ℕ} 0 1 = cc in omega arith)
rows-missing ps (n ∷ ns) e = go (there ps n) refl (λ q. rows-missing ps ns q)
  where
    go : (b : Bool) → there ps n ≡ b → (all_of (there ps) ns ≡ false → rows_at ps ns ≡ refused (because table.place)) → rows_at ps (n ∷ ns) ≡ refused (because table.place)
    go true q r =
        let t = seek-within 0 n ps (ltb-true n (shapes_of ps) q) in
        let o : all_of (there ps) ns ≡ false = sym (all_cons (there ps) n ns ∙ ap (λ (b : Bool). b && all_of (there ps) ns) q) ∙ e in
        rows-first ps n ns t.0 t.1 ∙ on-refused (rows_at ps ns) _ (because table.place) (r o)
    go false q r = rows-stop ps n ns (because table.place) (seek-beyond 0 n ps (ltb-false n (shapes_of ps) q))

-- no row at all
abbrev pub no_row : Row
no_row = record { register = 0; kind = 0 }

-- so many rows, and the one at i is that of the place at i
pub record Rowed (ps : List Page) (ns : List ℕ) (rs : List Row) : Type 0 where
  pub long : length rs ≡ length ns
  pub each : (i : ℕ) → i < length ns → (t : Seat) × (seek_in 0 (get_or ns i 0) ps ≡ ok t) × (get_or rs i no_row ≡ seat_row t)

rows_more : (ps : List Page) (n : ℕ) (ns : List ℕ) (t : Seat) (rs : List Row) → seek_in 0 n ps ≡ ok t → Rowed ps ns rs → Rowed ps (n ∷ ns) (seat_row t ∷ rs)
rows_more ps n ns t rs q r = record { long = ap suc r.long; each = at }
  where
    at : (i : ℕ) → i < length (n ∷ ns) → (u : Seat) × (seek_in 0 (get_or (n ∷ ns) i 0) ps ≡ ok u) × (get_or (seat_row t ∷ rs) i no_row ≡ seat_row u)
    at zero h = (t, q, refl)
    at (suc i) h = r.each i (omega arith)

rows_split : (ps : List Page) (n : ℕ) (ns : List ℕ) (rs : List Row) → rows_at ps (n ∷ ns) ≡ ok rs
    → (t : Seat) × (qs : List Row) × (seek_in 0 n ps ≡ ok t) × (rows_at ps ns ≡ ok qs) × (seat_row t ∷ qs ≡ rs)
unfolding rows_at
rows_split ps n ns rs e =
    let a = on-ok (seek_in 0 n ps) (λ t. on (rows_at ps ns) (λ qs. ok (seat_row t ∷ qs))) rs e in
    let b = on-ok (rows_at ps ns) (λ qs. ok (seat_row a.0 ∷ qs)) rs a.2 in
    (a.0, b.0, a.1, b.1, ok-inj b.2)

pub rows-each : (ps : List Page) (ns : List ℕ) (rs : List Row) → rows_at ps ns ≡ ok rs → Rowed ps ns rs
rows-each ps [] rs e = subst (Rowed ps []) (ok-inj (sym (rows_none ps) ∙ e)) (record { long = refl; each = λ i h. absurd (omega arith) })
rows-each ps (n ∷ ns) rs e =
    let a = rows_split ps n ns rs e in
    subst (Rowed ps (n ∷ ns)) a.4 (rows_more ps n ns a.0 a.1 a.2 (rows-each ps ns a.1 a.3))

-- ---- in a file

module _ (s places : List ℕ) where
  pub rows_frame : (w : Refusal) → frame_of s ≡ refused w → rows_in s places ≡ refused w
  unfolding rows_in
  rows_frame w e = on-refused (frame_of s) _ w e

  pub rows-sound : (f : Frame) → frame_of s ≡ ok f → rows_in s places ≡ rows_at f.pages places
  unfolding rows_in
  rows-sound f e = on_value (frame_of s) _ f e

  pub rows-framed : (rs : List Row) → rows_in s places ≡ ok rs → (f : Frame) × (frame_of s ≡ ok f) × Rowed f.pages places rs
  unfolding rows_in
  rows-framed rs e = let a = on-ok (frame_of s) _ rs e in (a.0, a.1, rows-each a.0.pages places rs a.2)

  module _ (a b : ℕ) where
    pub rows-refused : (w : Refusal) → rows_in s places ≡ refused w → rows_of s places a b ≡ refused w
    unfolding rows_of
    rows-refused w e = on-refused (rows_in s places) _ w e

    module _ (rs : List Row) (e : rows_in s places ≡ ok rs) where
      pub room-registers : a < length places → rows_of s places a b ≡ refused (because table.room)
      unfolding rows_of
      room-registers h = on_value (rows_in s places) _ rs e ∙ unmet (because table.room) (ok rs) (rw (lt-leb (length places) a h))

      module _ (l : length places ≤ a) where
        pub room-types : b < length places → rows_of s places a b ≡ refused (because table.room)
        unfolding rows_of
        room-types h = on_value (rows_in s places) _ rs e ∙ unmet (because table.room) (ok rs) (rw (le-leb (length places) a l, lt-leb (length places) b h))

        pub room-both : length places ≤ b → rows_of s places a b ≡ rows_in s places
        unfolding rows_of
        room-both h = on_value (rows_in s places) _ rs e ∙ met (because table.room) (ok rs) (rw (le-leb (length places) a l, le-leb (length places) b h)) ∙ sym e

-- as the code was told how many shapes there are
module _ (s places : List ℕ) (o : Out Totals) (q : o ≡ on (frame_of s) (λ f. ok (totals_of f))) (n : Totals) (e : o ≡ ok n) where
  told : (f : Frame) × (frame_of s ≡ ok f) × (totals_of f ≡ n)
  told = sound-said s o q n e

  among : (b : Bool) → all_of (λ (p : ℕ). ltb p n.shapes) places ≡ b → all_of (there told.0.pages) places ≡ b
  among b h = ap (λ (m : Totals). all_of (λ (p : ℕ). ltb p m.shapes) places) told.2 ∙ h

  pub no_rows : all_of (λ (p : ℕ). ltb p n.shapes) places ≡ false → rows_in s places ≡ refused (because table.place)
  no_rows h = rows-sound s places told.0 told.1 ∙ rows-missing told.0.pages places (among false h)

  pub all-rows : all_of (λ (p : ℕ). ltb p n.shapes) places ≡ true → (rs : List Row) × (rows_in s places ≡ ok rs)
  all-rows h = let r = rows-there told.0.pages places (among true h) in (r.0, rows-sound s places told.0 told.1 ∙ r.1)

-- a refusal leaves both rooms
pub both-refused : {o : Out (List Row)} {dr dt : List ℕ} (w : Refusal) → o ≡ refused w
    → Fills (registers_from o) dr (refused w) dr × Fills (types_from o) dt (refused w) dt
unfolding registers_from types_from
both-refused {o = o} w e = (fills-refused w (on-refused o _ w e), fills-refused w (on-refused o _ w e))

-- ---- the loop

abbrev registers_of : List Row → List ℕ
registers_of rs = map (λ (r : Row). r.register) rs

abbrev types_of : List Row → List ℕ
types_of rs = map (λ (r : Row). r.kind) rs

-- of the places i are done, and the rooms that held dr and dt hold er and et
pub record Listing (s places dr dt : List ℕ) (c : Cursor) (i : ℕ) (er et : List ℕ) : Type 0 where
  pub few : i ≤ length places
  pub onward : Onward s c
  pub rows : List Row
  pub all : rows_in s places ≡ ok rows
  pub registers_fit : length places ≤ length dr
  pub types_fit : length places ≤ length dt
  pub registers_long : length er ≡ length dr
  pub types_long : length et ≡ length dt
  pub registers : er ≡ take i (registers_of rows) ++ drop i dr
  pub types : et ≡ take i (types_of rows) ++ drop i dt

pub listing_none : (s places dr dt : List ℕ) (c : Cursor) (rs : List Row) → Onward s c → rows_in s places ≡ ok rs → length places ≤ length dr → length places ≤ length dt
    → Listing s places dr dt c 0 dr dt
listing_none s places dr dt c rs o e a b = record {
  few = omega arith;
  onward = o;
  rows = rs;
  all = e;
  registers_fit = a;
  types_fit = b;
  registers_long = refl;
  types_long = refl;
  registers = refl;
  types = refl;
}

module _ (s places dr dt : List ℕ) (c : Cursor) (i : ℕ) (er et : List ℕ) (w : Listing s places dr dt c i er et) where
  framed : (f : Frame) × (frame_of s ≡ ok f) × Rowed f.pages places w.rows
  framed = rows-framed s places w.rows w.all

  long : length w.rows ≡ length places
  long = framed.2.long

  module _ (h : i < length places) (r : Out SeatAt) (k : Seeks s (get_or places i 0) r) where
    mine : (t : Seat) × (seek_in 0 (get_or places i 0) framed.0.pages ≡ ok t) × (get_or w.rows i no_row ≡ seat_row t)
    mine = framed.2.each i h

    sought : seat_of s (get_or places i 0) ≡ ok mine.0
    sought = seat-sound s (get_or places i 0) framed.0 framed.1 ∙ mine.1

    -- no place is refused
    pub listing-never : {A : Type 0} (x : Refusal) → r ≡ refused x → A
    listing-never x e = absurd (never (sym (sought-refused s (get_or places i 0) r k x e) ∙ sought))

    -- the row of the place at i
    pub listing-more : (t : SeatAt) (row : Row) → r ≡ ok t → row ≡ row_of t.page.head (part s t.page.body t.page.len) t.index
        → Listing s places dr dt t.at (i + 1) (set er i row.register) (set et i row.kind)
    listing-more t row e q = record {
      few = omega arith;
      onward = (k.seat t e).onward;
      rows = w.rows;
      all = w.all;
      registers_fit = w.registers_fit;
      types_fit = w.types_fit;
      registers_long = length-set er i row.register ∙ w.registers_long;
      types_long = length-set et i row.kind ∙ w.types_long;
      registers = ap (set er i) (own (λ x. x.register)) ∙ copy_more (registers_of w.rows) dr er i (omega (arith, w.registers_fit)) (omega (arith, long, length-map w.rows (λ (x : Row). x.register))) w.registers;
      types = ap (set et i) (own (λ x. x.kind)) ∙ copy_more (types_of w.rows) dt et i (omega (arith, w.types_fit)) (omega (arith, long, length-map w.rows (λ (x : Row). x.kind))) w.types;
    }
      where
        same : row ≡ get_or w.rows i no_row
        same = q ∙ ap seat_row (ok-inj (sym (sought-seat s (get_or places i 0) r k t e) ∙ sought)) ∙ sym mine.2

        own : (f : Row → ℕ) → f row ≡ get_or (map f w.rows) i (f no_row)
        own f = ap f same ∙ sym (get_or-map f w.rows i no_row)

  -- all are done
  pub listing-done : length places ≤ i → Fills (registers_from (rows_in s places)) dr (ok (length places)) er × Fills (types_from (rows_in s places)) dt (ok (length places)) et
  unfolding registers_from types_from
  listing-done h =
      let z : i ≡ length places = omega (arith, w.few) in
      let nr : length (registers_of w.rows) ≡ length places = length-map w.rows (λ (x : Row). x.register) ∙ long in
      let nt : length (types_of w.rows) ≡ length places = length-map w.rows (λ (x : Row). x.kind) ∙ long in (
        fills-ok (registers_of w.rows) (length places) er (on_value (rows_in s places) _ w.rows w.all) (sym nr)
            (w.registers ∙ ap₂ (λ (x y : List ℕ). x ++ y) (take_all i (registers_of w.rows) (omega (arith, nr))) (ap (λ (n : ℕ). drop n dr) z)),
        fills-ok (types_of w.rows) (length places) et (on_value (rows_in s places) _ w.rows w.all) (sym nt)
            (w.types ∙ ap₂ (λ (x y : List ℕ). x ++ y) (take_all i (types_of w.rows) (omega (arith, nt))) (ap (λ (n : ℕ). drop n dt) z)),
      )
