-- Demand 2, "reading what was written gives back each 64-bit pattern": bytes that are a column of a list are read as that list, whatever the
-- width and whichever values stand in full; so are the bytes at each width, and those that the writer makes. Over the pattern size P; the
-- services take 64. Assumes nothing.
use mathlib.Core.Path.{◌≡◌, ◌∙◌, subst}
use mathlib.Core.List.{List}
use Prim.Native.Nat.{ℕ, ◌≤◌, ◌<◌}
use lib.ListN.{length}
use borrow.Author.Tests.{leb-true}
use Rattle.answer.specs.Outcome.{ok}
use Rattle.answer.proofs.Outcomes.{need-ok, ok-inj}
use Rattle.le.specs.Number.{Fits}
use Rattle.width.specs.Width.{width_of}
use Rattle.width.proofs.Sizes.{width-least}
use Rattle.column.specs.Column.{IsColumn, encode_at, encode}
use Rattle.column.specs.Write.{write_of}
use Rattle.column.specs.Read.{read_of}
use Rattle.column.proofs.Decoding.{read-decode}
use Rattle.column.proofs.Trips as trips

-- ---- what is a column of a list is read as that list

pub reads-column : (P : ℕ) {s vs : List ℕ} (room : ℕ) → P < 256 → Fits P vs → IsColumn P s vs → length vs ≤ 2048 → length vs ≤ room → read_of P s (length vs) room ≡ ok vs
reads-column P {s} {vs} room hP hb k h3 h2 = read-decode P s (length vs) room h3 h2 ∙ trips.decodes-column P hP hb k

-- the bytes at width n are a column of the list
pub written-column : (P n : ℕ) (vs : List ℕ) → n ≤ P → IsColumn P (encode_at P n vs) vs
written-column = trips.written-column

-- ---- the round trip

-- at every width
pub round_trip : (P n : ℕ) (vs : List ℕ) (room : ℕ) → n ≤ P → P < 256 → Fits P vs → length vs ≤ 2048 → length vs ≤ room
    → read_of P (encode_at P n vs) (length vs) room ≡ ok vs
round_trip P n vs room hn hP hb h3 h2 = reads-column P room hP hb (written-column P n vs hn) h3 h2

-- and so for what the writer gives
pub round-trip-written : (P : ℕ) (vs s : List ℕ) (size room : ℕ) → P < 256 → Fits P vs → write_of P vs size ≡ ok s → length vs ≤ room
    → read_of P s (length vs) room ≡ ok vs
unfolding write_of encode
round-trip-written P vs s size room hP hb h h2 =
    let p = need-ok _ _ _ _ h in
    let q = need-ok _ _ _ _ p.1 in
    let e : encode_at P (width_of P vs) vs ≡ s = ok-inj q.1 in
    subst (λ (x : List ℕ). read_of P x (length vs) room ≡ ok vs) e
    (round_trip P (width_of P vs) vs room (width-least P vs).within hP hb (leb-true _ _ p.0) h2)
