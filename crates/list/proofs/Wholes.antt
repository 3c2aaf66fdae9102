-- Shown here: the first 40,999 bytes of an input decide what is printed of it, so that no more need be read. Nothing is assumed.
use Prim.Native.Nat.{ℕ, ◌≤◌, ◌<◌}
use mathlib.Core.Path.{◌≡◌, refl, sym, ap, ◌∙◌}
use mathlib.Core.Bool.{Bool, true, false}
use mathlib.Core.List.{List}
use native.Mathlib.Omega.{arith}
use borrow.Author.Tests.{leb-true, leb-false}
use lib.Dec.{leb}
use lib.ListN.{length, take, length-take, length-drop}
use lib.Seq.{take_all}
use Rattle.answer.specs.Outcome.{Out, refused, ok}
use Rattle.query.specs.Block.{block_len}
use Rattle.query.proofs.Good.{len_short}
use Rattle.query.proofs.Fronting.{len-first}
use Rattle.text.specs.Pieces.{text_of}
use Rattle.list.specs.Listing.{Listing, most_read, listing_behind, listing_of}
use Rattle.list.specs.Printed.{lines_of, printed_of}
use Rattle.list.proofs.Listings.{block_refused, block-found, size-many}

-- behind its query block
behind-first : (s : List ℕ) (n : ℕ) → n ≤ 38 → listing_behind (take most_read s) n ≡ listing_behind s n
behind-first s n h = go (leb (length s) most_read) refl
  where
    go : (t : Bool) → leb (length s) most_read ≡ t → listing_behind (take most_read s) n ≡ listing_behind s n
    go true e = ap (λ (l : List ℕ). listing_behind l n) (take_all most_read s (leb-true (length s) most_read e))
    go false e =
        let l : most_read < length s = leb-false (length s) most_read e in
        size-many (take most_read s) n (omega (arith, length-drop n (take most_read s), length-take most_read s))
        ∙ sym (size-many s n (omega (arith, length-drop n s)))

pub listing-first : (s : List ℕ) → listing_of (take most_read s) ≡ listing_of s
listing-first s = go (block_len s) refl
  where
    same : block_len (take most_read s) ≡ block_len s
    same = len-first s most_read (omega arith)

    go : (o : Out ℕ) → block_len s ≡ o → listing_of (take most_read s) ≡ listing_of s
    go (refused w) e = block_refused (take most_read s) w (same ∙ e) ∙ sym (block_refused s w e)
    go (ok n) e = block-found (take most_read s) n (same ∙ e) ∙ behind-first s n (len_short s n e) ∙ sym (block-found s n e)

pub printed-first : (s : List ℕ) → printed_of (take most_read s) ≡ printed_of s
unfolding printed_of
printed-first s = ap (λ (o : Out Listing). text_of (lines_of o)) (listing-first s)
