-- Demand 2, "no permitted width would have taken fewer bits": the width that the writer takes has the least size, the smallest on a tie; a
-- column never takes more than 1 + 8N bytes; and 2 comes exactly when no permitted width would fit. Over the pattern size P; the services
-- take 64. Assumes nothing.
use mathlib.Core.Path.{◌≡◌, refl, sym, ap, ◌∙◌, subst}
use mathlib.Core.List.{List, [], ◌∷◌}
use mathlib.Core.Bool.{Bool, true, false}
use Prim.Native.Nat.{ℕ, ◌+◌, ◌*◌, ◌≤◌, ◌<◌}
use native.Mathlib.Omega.{arith}
use lib.Dec.{leb}
use lib.ListN.{length}
use borrow.Author.Tests.{leb-true, leb-false}
use Rattle.answer.specs.Table as Table
use Rattle.answer.specs.declared.Refusal.{Refusal}
use Rattle.answer.specs.Refusal.{because}
use Rattle.answer.specs.Outcome.{refused}
use Rattle.answer.proofs.Outcomes.{never, refused-inj}
use Rattle.entry.specs.Fields.{bits}
use Rattle.width.specs.Width.{zs_of, column_size, width_of, Least}
use Rattle.width.proofs.Sizes.{width-least}
use Rattle.column.specs.Column.{column_at, encode_at, encode}
use Rattle.column.specs.Write.{write_of}
use Rattle.column.proofs.Trips as trips
use Rattle.column.proofs.Writing.{column-bits, encode-length, encode-none, encode-is, write-many, write-room, write_bytes}
use Rattle.promises.specs.Fitting.{NoneFits}

-- the size in bits at width n is 8 + P + S(n), 72 + S(n) at 64
pub size-in-bits : (P n : ℕ) (vs : List ℕ) → 0 < length vs → bits (column_at P n vs) ≡ 8 + P + column_size P (zs_of P vs) n
size-in-bits = column-bits

-- column_size is least at the width taken, and larger at each smaller width
pub least_size : (P : ℕ) (vs : List ℕ) → Least (column_size P (zs_of P vs)) P (width_of P vs)
least_size = width-least

-- a column takes at most 8 + PN bits
pub bits_most : (P : ℕ) (vs : List ℕ) → 0 < length vs → bits (column_at P (width_of P vs) vs) ≤ 8 + P * length vs
bits_most = trips.bits_most

-- and so at most 1 + 8N bytes
pub bytes_most : (vs : List ℕ) → length (encode 64 vs) ≤ 1 + 8 * length vs
bytes_most = trips.bytes_most

-- no width gives fewer bytes
pub bytes-least : (P n : ℕ) (vs : List ℕ) → n ≤ P → length (encode P vs) ≤ length (encode_at P n vs)
unfolding encode
bytes-least P n [] h = omega (arith, ap length (encode-none P (width_of P []) [] refl), ap length (encode-none P n [] refl))
bytes-least P n (v ∷ vs) h =
    let some : 0 < length (v ∷ vs) = omega arith in
    omega (
      arith,
      encode-length P (width_of P (v ∷ vs)) (v ∷ vs),
      encode-length P n (v ∷ vs),
      column-bits P (width_of P (v ∷ vs)) (v ∷ vs) some,
      column-bits P n (v ∷ vs) some,
      (width-least P (v ∷ vs)).least_of n h,
    )

-- ---- 2 comes exactly when no permitted width's bytes fit the room

pub room-refused : (P : ℕ) (vs : List ℕ) (size : ℕ) → length vs ≤ 2048 → NoneFits P vs size → write_of P vs size ≡ refused (because Table.room)
room-refused P vs size h none =
    write-room P vs size h (subst (λ (x : List ℕ). size < length x) (encode-is P (width_of P vs) vs refl) (none (width_of P vs) (width-least P vs).within))

pub refused-by-room : (P : ℕ) (vs : List ℕ) (size : ℕ) → write_of P vs size ≡ refused (because Table.room) → (length vs ≤ 2048) × NoneFits P vs size
refused-by-room P vs size h = go (leb (length vs) 2048) refl
  where
    over : 2048 < length vs → ⊥
    over l =
        let w : because Table.many ≡ because Table.room = refused-inj (sym (write-many P vs size l) ∙ h) in
        let z : ◌≡◌ {A = ℕ} 3 2 = ap (λ (r : Refusal). r.number) w in
        omega arith

    least-over : length vs ≤ 2048 → size < length (encode P vs)
    least-over k = fits (leb (length (encode P vs)) size) refl
      where
        fits : (t : Bool) → leb (length (encode P vs)) size ≡ t → size < length (encode P vs)
        fits true e = absurd (never (sym h ∙ write_bytes P vs size k (leb-true _ _ e)))
        fits false e = leb-false _ _ e

    go : (t : Bool) → leb (length vs) 2048 ≡ t → (length vs ≤ 2048) × NoneFits P vs size
    go true e = let k : length vs ≤ 2048 = leb-true _ _ e in (k, λ n l. omega (arith, least-over k, bytes-least P n vs l))
    go false e = absurd (over (leb-false _ _ e))
