-- Shown here, by computation: what is printed for document 01's sample file with the window (0,0,10,10), which is the document's own example; an empty list, for the
-- spot (10.5,5); a refused line with its page, for the sample without its last byte; one with column and value, for the sample with a worn column; and one for an
-- input with no query block. And that the first of these rows does not
-- come twice. Nothing is assumed.
use Prim.Native.Nat.{ℕ, ◌≤◌}
use mathlib.Core.Path.{◌≡◌, refl, sym, ap, ◌∙◌}
use mathlib.Core.List.{List, [], ◌∷◌, ◌++◌}
use native.Mathlib.Omega.{arith}
use lib.ListN.{length, take, drop}
use Rattle.answer.specs.declared.Refusal.{Refusal}
use Rattle.answer.specs.Refusal.{because, on_page}
use Rattle.answer.specs.Table.{query, lengths}
use Rattle.answer.specs.Outcome.{Out, refused, ok, on}
use Rattle.answer.proofs.Outcomes.{ok-inj, on-ok}
use Rattle.answer.proofs.Orders.{on-refused, on_value}
use Rattle.query.specs.Block.{block_len, ask_of, block_with}
use Rattle.query.proofs.Good.{len-fronts, len-fits}
use Rattle.query.proofs.Refusals.{len-only}
use Rattle.frame.specs.Frame.{Frame, frame_of, shapes_of}
use Rattle.place.specs.declared.row.Row.{Row}
use Rattle.place.specs.Rows.{rows_in}
use Rattle.place.proofs.Places.{rows_none, rows-sound}
use Rattle.search.specs.Search.{search_of}
use Rattle.text.specs.Decimal.{digits_of, decimal}
use Rattle.text.specs.Pieces.{codes, piece_bytes, text_of}
use Rattle.text.specs.Lines.{row, hits_line, column_words, where_words, refused_line}
use Rattle.text.specs.Stretch.{Stretch}
use Rattle.promises.specs.Sample.{sample, cut, worn_at, window, beside, found_by}
use Rattle.promises.proofs.Sampled.{sample-found, sample-listable, sample-worn}
use Rattle.list.specs.Listing.{Listing, listing_with, listing_at, listing_for, listing_of}
use Rattle.list.specs.Printed.{row_lines, lines_of, printed_of}
use Rattle.list.proofs.Asked.{asked-lists}
use Rattle.list.proofs.Listings.{block_refused}

-- what is printed is told by what is listed
printed : (input : List ℕ) (o : Out Listing) → listing_of input ≡ o → printed_of input ≡ text_of (lines_of o)
unfolding printed_of
printed input o e = ap (λ (x : Out Listing). text_of (lines_of x)) e

-- the sample has four shapes
four : (f : Frame) × (frame_of sample ≡ ok f) × (shapes_of f.pages ≡ 4)
four = let f = on-ok (frame_of sample) _ 4 sample-listable.1 in (f.0, f.1, ok-inj f.2)

-- what the sample lists for a query that finds these places, with these rows
sampled : (ps l : List ℕ) (rs : List Row) → found_by ps ≡ ok l → rows_in sample l ≡ ok rs → listing_of (block_with ps ++ sample) ≡ ok (listing_with l rs 4)
unfolding listing_for listing_at
sampled ps l rs e r =
    let a = on-ok (ask_of (block_with ps)) _ l e in
    asked-lists (block_with ps) sample a.0 a.1 (omega arith)
    ∙ on_value (search_of a.0 sample 4096) _ l a.2
    ∙ on_value (rows_in sample l) _ rs r
    ∙ on_value (frame_of sample) _ four.0 four.1
    ∙ ap (λ (n : ℕ). ok (listing_with l rs n)) four.2

pub window-prints : printed_of (block_with window ++ sample) ≡ codes "0 101 3\nhits 1 of 4\n"
window-prints =
    printed _ _ (sampled window (0 ∷ []) _ sample-found.0 sample-listable.0)
    ∙ unfold digits_of decimal codes piece_bytes text_of row hits_line row_lines lines_of in refl

-- no place, no row
pub beside-prints : printed_of (block_with beside ++ sample) ≡ codes "hits 0 of 4\n"
beside-prints =
    printed _ _ (sampled beside [] [] sample-found.3 (rows-sound sample [] four.0 four.1 ∙ rows_none four.0.pages))
    ∙ unfold digits_of decimal codes piece_bytes text_of hits_line row_lines lines_of in refl

-- a file that the search refuses, for a query that finds places in the sample
refused-prints : (ps s l : List ℕ) (w : Refusal) → found_by ps ≡ ok l → length s ≤ 40960 → on (ask_of (block_with ps)) (λ a. search_of a s 4096) ≡ refused w
    → printed_of (block_with ps ++ s) ≡ text_of (lines_of (refused w))
unfolding listing_for
refused-prints ps s l w e h f =
    let a = on-ok (ask_of (block_with ps)) _ l e in
    printed _ _ (asked-lists (block_with ps) s a.0 a.1 h ∙ on-refused (search_of a.0 s 4096) _ w (sym (on_value (ask_of (block_with ps)) (λ x. search_of x s 4096) a.0 a.1) ∙ f))

pub cut-prints : printed_of (block_with window ++ cut) ≡ codes "refused 4 page 2\n"
cut-prints =
    refused-prints window cut _ (on_page 2 (because lengths)) sample-found.0 (omega arith) sample-listable.2
    ∙ unfold digits_of decimal codes piece_bytes text_of where_words refused_line lines_of in refl

-- where in the page, for a worn column of the sample: x, and y
pub worn-prints : (printed_of (block_with [] ++ worn_at 214) ≡ codes "refused 9 page 1 column x value 1\n")
    × (printed_of (block_with [] ++ worn_at 230) ≡ codes "refused 9 page 1 column y value 1\n")
worn-prints = (
  refused-prints [] (worn_at 214) _ _ sample-found.4 (omega arith) sample-worn.0
      ∙ unfold digits_of decimal codes piece_bytes text_of column_words where_words refused_line lines_of in refl,
  refused-prints [] (worn_at 230) _ _ sample-found.4 (omega arith) sample-worn.1
      ∙ unfold digits_of decimal codes piece_bytes text_of column_words where_words refused_line lines_of in refl,
)

pub nothing-prints : printed_of [] ≡ codes "refused 1 page 0\n"
nothing-prints =
    printed _ _ (block_refused [] (because query) (go (block_len []) refl))
    ∙ unfold digits_of decimal codes piece_bytes text_of where_words refused_line lines_of in refl
  where
    go : (o : Out ℕ) → block_len [] ≡ o → block_len [] ≡ refused (because query)
    go (refused w) e = e ∙ ap refused (len-only [] w e)
    go (ok n) e = absurd (omega (arith, len-fits [] n e, (len-fronts [] n e).takes))

-- its row is a stretch of that output from 0 on, and not once more behind itself: `write` would not take it a second time
pub row-once : Stretch (printed_of (block_with window ++ sample)) (length (codes "0 101 3\n")) (codes "0 101 3\n") → ⊥
unfolding codes
row-once s =
    let e : codes "hits 1 o" ≡ codes "0 101 3\n" = sym (ap (λ (t : List ℕ). take 8 (drop 8 t)) window-prints) ∙ s.same in
    let z : ◌≡◌ {A = ℕ} 104 48 = cc in
    omega arith
