-- Shown here: what is printed of an input is the refused line, or its rows and the last line, stretch by stretch; and it is short. Nothing is assumed.
use Prim.Native.Nat.{ℕ, ◌+◌, ◌-◌, ◌*◌, ◌≤◌, ◌<◌}
use mathlib.Core.Path.{◌≡◌, refl, ap, ◌∙◌, subst}
use mathlib.Core.List.{List, [], ◌∷◌, ◌++◌, append_assoc}
use native.Mathlib.Omega.{arith}
use lib.ListN.{length, take, drop}
use Rattle.answer.specs.declared.Refusal.{Refusal}
use Rattle.answer.specs.Outcome.{Out, refused, ok}
use Rattle.text.specs.Pieces.{Piece, codes, text_of, most}
use Rattle.text.specs.Lines.{row, hits_line, refused_line}
use Rattle.text.specs.Stretch.{Stretch}
use Rattle.text.proofs.Pieces.{text-most, most-append}
use Rattle.text.proofs.Places.{refused-most}
use Rattle.text.proofs.Stretches.{Written, written_none, written_next, written-more}
use Rattle.list.specs.Listing.{Listing, listing, listing_of}
use Rattle.list.specs.Printed.{row_lines, lines_of, printed_of}
use Rattle.list.proofs.Listings.{listed-few}
use Rattle.list.proofs.Rowing.{rows-between, rows-over}

-- ---- a refused input

pub refused-left : (input : List ℕ) (w : Refusal) → listing_of input ≡ refused w → (k : ℕ) → k ≡ 0 → Written (printed_of input) k (refused_line w)
unfolding printed_of lines_of
refused-left input w e k z = written_none _ k _ z (ap (λ (o : Out Listing). text_of (lines_of o)) e)

-- ---- a listing

-- what is left of it from row i on
abbrev pub left_from : List ℕ → List ℕ → List ℕ → ℕ → ℕ → List Piece
left_from P R T shapes i = row_lines (drop i P) (drop i R) (drop i T) ++ hits_line (length P) shapes

-- the rows from i to e
abbrev pub rows_to : List ℕ → List ℕ → List ℕ → ℕ → ℕ → List Piece
rows_to P R T i e = row_lines (take (e - i) (drop i P)) (take (e - i) (drop i R)) (take (e - i) (drop i T))

module _ (input P R T : List ℕ) (shapes : ℕ) where
  pub listed-none : (k : ℕ) → k ≡ 0 → listing_of input ≡ ok (listing P R T shapes) → Written (printed_of input) k (left_from P R T shapes 0)
  unfolding printed_of lines_of
  listed-none k z e = written_none _ k _ z (ap (λ (o : Out Listing). text_of (lines_of o)) e)

  module _ (k i : ℕ) (w : Written (printed_of input) k (left_from P R T shapes i)) where
    -- the rows up to e are the stretch that comes next
    module _ (e : ℕ) (h : i ≤ e) (l : List ℕ) (q : l ≡ text_of (rows_to P R T i e)) where
      parted : Written (printed_of input) k (rows_to P R T i e ++ left_from P R T shapes e)
      parted = subst (Written (printed_of input) k) (ap (λ (x : List Piece). x ++ hits_line (length P) shapes) (rows-between P R T i e h) ∙ append_assoc (rows_to P R T i e) _ _) w

      pub listed_next : Stretch (printed_of input) k l
      listed_next = written_next _ _ _ _ parted l q

      pub listed_more : Written (printed_of input) (k + length l) (left_from P R T shapes e)
      listed_more = written-more _ _ _ _ parted l q

    -- and the last line comes behind all of them
    pub listed-over : length P ≤ i → Written (printed_of input) k (hits_line (length P) shapes)
    listed-over h = subst (Written (printed_of input) k) (ap (λ (x : List Piece). x ++ hits_line (length P) shapes) (rows-over P R T i h)) w

-- ---- it is short

-- a row takes at most 63 bytes
rows-most : (P R T : List ℕ) → most (row_lines P R T) ≤ 63 * length P
unfolding row_lines most row codes
rows-most [] R T = omega arith
rows-most (p ∷ P) [] T = omega arith
rows-most (p ∷ P) (r ∷ R) [] = omega arith
rows-most (p ∷ P) (r ∷ R) (t ∷ T) = omega (arith, rows-most P R T)

listed-most : (l : Listing) → most (lines_of (ok l)) ≤ 63 * length l.places + 50
unfolding lines_of
listed-most l = omega (arith, most-append (row_lines l.places l.registers l.types) (hits_line (length l.places) l.shapes), rows-most l.places l.registers l.types, last-most)
  where
    last-most : most (hits_line (length l.places) l.shapes) ≤ 50
    last-most = unfold most hits_line codes in omega arith

-- so that all of it takes fewer than 2^18
pub printed-short : (input : List ℕ) → length (printed_of input) < 262144
unfolding printed_of
printed-short input = go (listing_of input) refl
  where
    go : (o : Out Listing) → listing_of input ≡ o → length (text_of (lines_of (listing_of input))) < 262144
    go (refused w) e = unfold lines_of in rw e (omega (arith, text-most (refused_line w), refused-most w))
    go (ok l) e = rw e (omega (arith, text-most (lines_of (ok l)), listed-most l, listed-few input l e))
