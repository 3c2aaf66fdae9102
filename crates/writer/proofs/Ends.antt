-- The first and the last block: how long they are, and that they are what is put. Assumes nothing.
use Prim.Native.Nat.{ℕ, ◌+◌}
use mathlib.Core.Path.{◌≡◌, sym, ap, ◌∙◌}
use mathlib.Core.List.{List, ◌++◌}
use native.Mathlib.Omega.{arith}
use lib.ListN.{length, length-append}
use lib.Seq.{sets}
use Rattle.le.specs.Number.{bytes_of}
use Rattle.block.specs.Kinds as kinds
use Rattle.block.specs.Block.{head_bytes, block_head}
use Rattle.le.proofs.Bytes.{length-bytes_of}
use Rattle.block.proofs.Blocks.{length-head}
use Rattle.frame.specs.Layout.{the_edition}
use Rattle.frame.specs.Next.{first_block_bytes}
use Rattle.frame.specs.Whole.{block_of, end_block_bytes, end_block}
use Rattle.frame.proofs.Parts.{length-block}
use Rattle.pageblock.proofs.Storing.{store}
use Rattle.writer.specs.State.{first_block}

pub length-first : length first_block ≡ first_block_bytes
unfolding first_block
length-first = length-block kinds.first (bytes_of 2 the_edition) ∙ omega (arith, length-bytes_of 2 the_edition)

pub length-end : (pages shapes : ℕ) → length (end_block pages shapes) ≡ end_block_bytes
unfolding end_block
length-end pages shapes =
    length-block kinds.end (bytes_of 4 pages ++ bytes_of 4 shapes)
    ∙ omega (arith, length-append (bytes_of 4 pages) (bytes_of 4 shapes), length-bytes_of 4 pages, length-bytes_of 4 shapes)

pub first-put : (d d₁ d₂ : List ℕ) → d₁ ≡ sets d 0 (block_head 2 kinds.first) → d₂ ≡ sets d₁ head_bytes (bytes_of 2 the_edition) → d₂ ≡ sets d 0 first_block
unfolding first_block block_of
first-put d d₁ d₂ e₁ e₂ =
    store (block_head (length (bytes_of 2 the_edition)) kinds.first) (bytes_of 2 the_edition) d d₁ d₂ 0 6 (e₁ ∙ ap (λ (n : ℕ). sets d 0 (block_head n kinds.first)) (sym (length-bytes_of 2 the_edition)))
    (omega (arith, length-head (length (bytes_of 2 the_edition)) kinds.first)) e₂

pub end-put : (pages shapes at : ℕ) (d d₁ d₂ d₃ : List ℕ) → d₁ ≡ sets d at (block_head 8 kinds.end) → d₂ ≡ sets d₁ (at + head_bytes) (bytes_of 4 pages) → d₃ ≡ sets d₂ (at + head_bytes + 4) (bytes_of 4 shapes)
    → d₃ ≡ sets d at (end_block pages shapes)
unfolding end_block block_of
end-put pages shapes at d d₁ d₂ d₃ e₁ e₂ e₃ =
    let b = bytes_of 4 pages ++ bytes_of 4 shapes in
    let n : 8 ≡ length b = omega (arith, length-append (bytes_of 4 pages) (bytes_of 4 shapes), length-bytes_of 4 pages, length-bytes_of 4 shapes) in
    store (block_head (length b) kinds.end) b d d₁ d₃ at (at + 6) (e₁ ∙ ap (λ (k : ℕ). sets d at (block_head k kinds.end)) n) (omega (arith, length-head (length b) kinds.end))
    (store (bytes_of 4 pages) (bytes_of 4 shapes) d₁ d₂ d₃ (at + 6) (at + 6 + 4) e₂ (omega (arith, length-bytes_of 4 pages)) e₃)
