-- Demand 2: "Coordinates by the FP-delta rules. Reading what was written gives back each 64-bit pattern, and no permitted width would have taken fewer bits.
-- Shapes obey the six types and the empty one." The laws over every pattern size are in RoundTrip, LeastSize and Accepted, and those over files in
-- SoundFiles and Writings; here they stand at 64 bits, together. Nothing is assumed.
use Prim.Native.Nat.{ℕ, ◌+◌, ◌*◌, ◌≤◌, ◌<◌}
use mathlib.Core.Path.{◌≡◌, sym, ◌∙◌, subst}
use mathlib.Core.List.{List}
use native.Mathlib.Omega.{arith}
use lib.ListN.{length}
use Rattle.answer.specs.Outcome.{ok}
use Rattle.answer.proofs.Outcomes.{ok-inj}
use Rattle.le.specs.Number.{Fits, Bytes}
use Rattle.width.specs.Width.{column_size, zs_of, width_of}
use Rattle.column.specs.Column.{IsColumn, encode_at, encode}
use Rattle.column.specs.Write.{write_of}
use Rattle.column.specs.Read.{read_of}
use Rattle.frame.specs.declared.walk.Totals.{Totals}
use Rattle.shape.specs.Outline.{Shape}
use Rattle.file.specs.File.{shapes_in}
use Rattle.file.specs.Check.{check_of}
use Rattle.promises.specs.Obeying.{AllObey}
use Rattle.promises.proofs.RoundTrip.{reads-column, round-trip-written}
use Rattle.promises.proofs.LeastSize.{least_size, bytes_most, bytes-least}
use Rattle.promises.proofs.SoundFiles.{accepted-sound}
use Rattle.promises.proofs.Obeyed.{sound-obeys}

-- reading what was written gives back each pattern
pub reads-back : (vs s : List ℕ) (size room : ℕ) → Fits 64 vs → write_of 64 vs size ≡ ok s → length vs ≤ room → read_of 64 s (length vs) room ≡ ok vs
reads-back vs s size room b = round-trip-written 64 vs s size room (omega arith) b

-- and so does reading what any writer wrote by the rules, at any width, with full values where steps would have fitted
pub reads-any : (vs s : List ℕ) (room : ℕ) → Fits 64 vs → IsColumn 64 s vs → length vs ≤ 2048 → length vs ≤ room → read_of 64 s (length vs) room ≡ ok vs
reads-any vs s room b = reads-column 64 room (omega arith) b

-- no permitted width would have taken fewer bits, nor fewer bytes
pub fewest-bits : (vs : List ℕ) (n : ℕ) → n ≤ 64 → column_size 64 (zs_of 64 vs) (width_of 64 vs) ≤ column_size 64 (zs_of 64 vs) n
fewest-bits vs = (least_size 64 vs).least_of

pub fewest-bytes : (vs : List ℕ) (n : ℕ) → n ≤ 64 → length (encode 64 vs) ≤ length (encode_at 64 n vs)
fewest-bytes vs n = bytes-least 64 n vs

-- "the smallest n on a tie"
pub smallest-width : (vs : List ℕ) (n : ℕ) → n < width_of 64 vs → column_size 64 (zs_of 64 vs) (width_of 64 vs) < column_size 64 (zs_of 64 vs) n
smallest-width vs = (least_size 64 vs).first_of

-- "A column never takes more than 1 + 8N bytes"
pub never-more : (vs : List ℕ) → length (encode 64 vs) ≤ 1 + 8 * length vs
never-more = bytes_most

-- shapes obey the table: every shape of a file that the full check accepts
pub shapes-obey : (s : List ℕ) (t : Totals) (ss : List Shape) → Bytes s → check_of s ≡ ok t → shapes_in s ≡ ok ss → AllObey ss
shapes-obey s t ss b e h =
    let a = accepted-sound s t b e in
    subst AllObey (ok-inj (sym a.3 ∙ h)) (sound-obeys a.2.pages)
