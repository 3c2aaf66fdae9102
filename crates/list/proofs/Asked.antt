-- Shown here: a query block before a file lists what it asks of that file. Nothing is assumed.
use Prim.Native.Nat.{ℕ, ◌≤◌}
use mathlib.Core.Path.{◌≡◌, ap, ap₂, ◌∙◌}
use mathlib.Core.List.{List, ◌++◌}
use lib.ListN.{length}
use lib.Seq.{take-append_seam, drop-append_seam}
use Rattle.answer.specs.Limits.{most_input}
use Rattle.answer.specs.Outcome.{ok, on}
use Rattle.answer.proofs.Orders.{on_value}
use Rattle.query.specs.declared.ask.Ask.{Ask}
use Rattle.query.specs.Block.{block_len, ask_of}
use Rattle.query.proofs.Good.{ask-accepts, fronts-len}
use Rattle.query.proofs.Fronting.{len-longer}
use Rattle.list.specs.Listing.{listing_for, listing_of}
use Rattle.list.proofs.Listings.{block-found, size-within}

module _ (block file : List ℕ) (a : Ask) (e : ask_of block ≡ ok a) where
  -- the block at the front is that one
  here : block_len (block ++ file) ≡ ok (length block)
  here =
      len-longer (block ++ file) (length block) (length block)
      (ap block_len (take-append_seam block file) ∙ fronts-len block (length block) (ask-accepts block a e).exactly)

  pub asked-lists : length file ≤ most_input → listing_of (block ++ file) ≡ listing_for a file
  asked-lists h =
      block-found (block ++ file) (length block) here
      ∙ size-within (block ++ file) (length block) (rw (drop-append_seam block file) h)
      ∙ ap₂ (λ (s b : List ℕ). on (ask_of b) (λ x. listing_for x s)) (drop-append_seam block file) (take-append_seam block file)
      ∙ on_value (ask_of block) (λ x. listing_for x file) a e
