-- Laws of a block's head: when a block is present, the ways through `block_at`, and what a head that was read or put says. Assumes nothing.
use Prim.Native.Nat.{ℕ, ◌+◌, ◌%◌, ◌^◌, ◌≤◌, ◌<◌}
use mathlib.Core.Path.{◌≡◌, sym, ap, ap₂, ◌∙◌}
use mathlib.Core.Bool.{true, false}
use mathlib.Core.List.{List, ◌++◌, append_assoc}
use native.Mathlib.Omega.{arith}
use borrow.Author.Tests.{leb-true, le-leb, lt-leb}
use lib.ListN.{length, length-append}
use lib.Seq.{sets}
use lib.Dec.{leb}
use Rattle.answer.specs.Table.{lengths}
use Rattle.answer.specs.Refusal.{because}
use Rattle.answer.specs.Outcome.{Out, refused, ok}
use Rattle.answer.proofs.Determined.{answer-one}
use Rattle.answer.proofs.Outcomes.{ok-inj, met, unmet, need-ok}
use Rattle.answer.proofs.Both.{both_r}
use Rattle.block.specs.declared.Block.{Block}
use Rattle.le.specs.Number.{number_at, bytes_of}
use Rattle.block.specs.Block.{present_at, block_at, block_head}
use Rattle.le.proofs.Bytes.{length-bytes_of, number-at-append, number-at-bytes_of}
use Rattle.le.proofs.Stores.{sets-append}

-- ---- what is present

module _ (s : List ℕ) (at : ℕ) where
  pub present-cut : length s < at + 6 → present_at s at ≡ false
  unfolding present_at
  present-cut h = simp (lt-leb (at + 6) (length s) h)

  module _ (n : ℕ) (e : n ≡ number_at 4 s at) where
    pub present-short : at + 6 ≤ length s → length s < at + 6 + n → present_at s at ≡ false
    unfolding present_at
    present-short h l = rw (← e) (simp (le-leb (at + 6) (length s) h, lt-leb (at + 6 + n) (length s) l))

    pub present-whole : at + 6 + n ≤ length s → present_at s at ≡ true
    unfolding present_at
    present-whole l =
        let h : at + 6 ≤ length s = omega arith in
        rw (← e) (simp (le-leb (at + 6) (length s) h, le-leb (at + 6 + n) (length s) l))

  pub present-fits : present_at s at ≡ true → at + 6 + number_at 4 s at ≤ length s
  unfolding present_at
  present-fits e = leb-true (at + 6 + number_at 4 s at) (length s) (both_r (leb (at + 6) (length s)) _ e)

  -- ---- the ways through

  pub block-absent : present_at s at ≡ false → block_at s at ≡ refused (because lengths)
  unfolding block_at
  block-absent e = unmet (because lengths) _ e

  pub block-present : present_at s at ≡ true → (k n : ℕ) → k ≡ number_at 2 s (at + 4) → n ≡ number_at 4 s at
      → block_at s at ≡ ok (record { kind = k; body = at + 6; len = n })
  unfolding block_at
  block-present e k n ek en = met (because lengths) _ e ∙ rw (ek, en)

  pub block-found : (k n : ℕ) → k ≡ number_at 2 s (at + 4) → n ≡ number_at 4 s at → at + 6 + n ≤ length s
      → block_at s at ≡ ok (record { kind = k; body = at + 6; len = n })
  block-found k n ek en l = block-present (present-whole n en l) k n ek en

  -- a block that is found is all there, and says what its head does
  pub block-says : (b : Block) → block_at s at ≡ ok b
      → (present_at s at ≡ true) × (record { kind = number_at 2 s (at + 4); body = at + 6; len = number_at 4 s at } ≡ b)
  unfolding block_at
  block-says b e = let p = need-ok _ _ _ b e in (p.0, ok-inj p.1)

pub block-fits : (s : List ℕ) (at : ℕ) (b : Block) → block_at s at ≡ ok b → b.body + b.len ≤ length s
block-fits s at b e = let p = block-says s at b e in rw (← p.1) (present-fits s at p.0)

-- ---- what is said

-- ---- a head that is put

pub length-head : (len kind : ℕ) → length (block_head len kind) ≡ 6
unfolding block_head
length-head len kind = length-append (bytes_of 4 len) (bytes_of 2 kind) ∙ omega (arith, length-bytes_of 4 len, length-bytes_of 2 kind)

-- the length and then the kind
pub put-head : (d : List ℕ) (at len kind : ℕ) → sets (sets d at (bytes_of 4 len)) (at + 4) (bytes_of 2 kind) ≡ sets d at (block_head len kind)
unfolding block_head
put-head d at len kind =
    sym (sets-append (bytes_of 4 len) (bytes_of 2 kind) d at ∙ ap (λ (k : ℕ). sets (sets d at (bytes_of 4 len)) (at + k) (bytes_of 2 kind)) (length-bytes_of 4 len))

-- and it reads back: the length, then the kind
pub head-len : (len kind : ℕ) (r : List ℕ) → number_at 4 (block_head len kind ++ r) 0 ≡ len % 2 ^ 32
unfolding block_head
head-len len kind r = ap (λ (l : List ℕ). number_at 4 l 0) (append_assoc (bytes_of 4 len) (bytes_of 2 kind) r) ∙ number-at-bytes_of 4 len (bytes_of 2 kind ++ r)

pub head-kind : (len kind : ℕ) (r : List ℕ) → number_at 2 (block_head len kind ++ r) 4 ≡ kind % 2 ^ 16
unfolding block_head
head-kind len kind r =
    let e : 4 ≡ length (bytes_of 4 len) + 0 = omega (arith, length-bytes_of 4 len) in
    ap₂ (number_at 2) (append_assoc (bytes_of 4 len) (bytes_of 2 kind) r) e
    ∙ number-at-append 2 (bytes_of 4 len) (bytes_of 2 kind ++ r) 0
    ∙ number-at-bytes_of 2 kind r

-- two answers of one place are the same
pub said-one : {o x y : Out Block} → x ≡ o → y ≡ o → x ≡ y
said-one = answer-one
