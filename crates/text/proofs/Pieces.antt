-- Shown here: pieces that are put behind pieces make one text, which takes at most what its pieces can. Nothing is assumed.
use Prim.Native.Nat.{ℕ, ◌+◌, ◌≤◌}
use mathlib.Core.Path.{◌≡◌, refl, sym, ap, ap₂, ◌∙◌}
use mathlib.Core.List.{List, [], ◌∷◌, ◌++◌, append_assoc, append-nil}
use native.Mathlib.Omega.{arith}
use lib.ListN.{length, length-append}
use lib.Seq.{sets, length-sets, length-take-le}
use Rattle.io.specs.Counts.{IsPrefixLen}
use Rattle.le.proofs.Stores.{sets-append}
use Rattle.text.specs.Decimal.{decimal}
use Rattle.text.specs.Pieces.{Piece, words, number, piece_bytes, text_of, most, Puts}
use Rattle.text.proofs.Decimals.{decimal-length}

-- the text of a single piece
pub put_one : (p : Piece) (d t : List ℕ) (at r : ℕ) → r ≡ at + length (piece_bytes p) → t ≡ sets d at (piece_bytes p) → Puts d at (p ∷ []) r t
unfolding text_of
put_one p d t at r e f =
    let g : piece_bytes p ≡ piece_bytes p ++ [] = sym (append-nil (piece_bytes p)) in
    record { next = e ∙ ap (λ (l : List ℕ). at + length l) g; room = f ∙ ap (sets d at) g }

-- the text of pieces behind pieces
pub text-append : (ps qs : List Piece) → text_of (ps ++ qs) ≡ text_of ps ++ text_of qs
unfolding text_of
text-append [] qs = refl
text-append (p ∷ ps) qs = ap (λ (l : List ℕ). piece_bytes p ++ l) (text-append ps qs) ∙ sym (append_assoc (piece_bytes p) (text_of ps) (text_of qs))

infixr 30 ◌then◌
-- a text that is put behind a text makes one with it
pub ◌then◌ : {d t u : List ℕ} {ps qs : List Piece} {at a b : ℕ} → Puts d at ps a t → Puts t a qs b u → Puts d at (ps ++ qs) b u
◌then◌ {d} {t} {u} {ps} {qs} {at} {a} {b} p q =
    let e = text-append ps qs in
    record {
      next = omega (arith, p.next, q.next, ap length e, length-append (text_of ps) (text_of qs));
      room = q.room ∙ ap₂ (λ (l : List ℕ) (j : ℕ). sets l j (text_of qs)) p.room p.next ∙ sym (sets-append (text_of ps) (text_of qs) d at) ∙ sym (ap (sets d at) e);
    }

-- the text of pieces takes at most what they can
pub text-most : (ps : List Piece) → length (text_of ps) ≤ most ps
unfolding text_of most piece_bytes
text-most [] = omega arith
text-most (words l ∷ ps) = omega (arith, length-append l (text_of ps), text-most ps)
text-most (number n ∷ ps) = omega (arith, length-append (decimal n) (text_of ps), decimal-length n, text-most ps)

-- and pieces behind pieces at most what both can
pub most-append : (ps qs : List Piece) → most (ps ++ qs) ≡ most ps + most qs
unfolding most
most-append [] qs = omega arith
most-append (words l ∷ ps) qs = omega (arith, most-append ps qs)
most-append (number n ∷ ps) qs = omega (arith, most-append ps qs)

-- so what is put for them ends so far behind its place at most
pub ends : {d t : List ℕ} {ps : List Piece} {at r : ℕ} → Puts d at ps r t → r ≤ at + most ps
ends {d} {t} {ps} p = omega (arith, p.next, text-most ps)

-- the room keeps its length
pub keeps : {d t : List ℕ} {ps : List Piece} {at r : ℕ} → Puts d at ps r t → length t ≡ length d
keeps {d} {t} {ps} {at} p = ap length p.room ∙ length-sets d at (text_of ps)

-- so what is put where the room holds the most of its pieces ends within the room
pub within : {d t : List ℕ} {ps : List Piece} {at r : ℕ} → Puts d at ps r t → at + most ps ≤ length d → IsPrefixLen r t
within {d} {t} {ps} {at} {r} p h =
    let f : r ≤ length t = omega (arith, ends p, keeps p) in
    (f, sym (length-take-le r t f))
