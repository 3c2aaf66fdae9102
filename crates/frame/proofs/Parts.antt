-- A block's bytes and what is found of them: a block that is put at a place stands there, and one that stands there is those bytes. Assumes
-- nothing.
use Prim.Native.Nat.{ℕ, ◌+◌, ◌^◌, ◌≤◌, ◌<◌}
use mathlib.Core.Path.{◌≡◌, refl, sym, ap, ap₂, ◌∙◌}
use mathlib.Core.List.{List, ◌++◌, append_assoc}
use native.Mathlib.Nat.{mod-eq_of_lt}
use native.Mathlib.Omega.{arith}
use lib.ListN.{length, take, drop, length-append, length-drop, take-append-drop}
use lib.Seq.{length-take-le, take_at, drop-drop, drop-append-add}
use Rattle.le.specs.Number.{number, number_at, bytes_of, Bytes}
use Rattle.block.specs.Block.{block_head}
use Rattle.le.proofs.Numbers.{bytes-part}
use Rattle.le.proofs.Bytes.{take-inside, bytes-number, number-at-append}
use Rattle.block.proofs.Blocks.{length-head, head-len, head-kind}
use Rattle.frame.specs.Next.{part}
use Rattle.frame.specs.Whole.{block_of}
use Rattle.frame.proofs.Found.{Stands}

-- ---- bytes in parts

pub length_part : (s : List ℕ) (at len : ℕ) → at + len ≤ length s → length (part s at len) ≡ len
length_part s at len h = length-take-le len (drop at s) (omega (arith, length-drop at s))

-- a part of a part
pub part_in : (s : List ℕ) (at len i k : ℕ) → i + k ≤ len → part (part s at len) i k ≡ part s (at + i) k
part_in s at len i k h = take-inside k i len (drop at s) h ∙ ap (take k) (drop-drop i at s)

-- the bytes of the number that stands at a place are those that stand there
pub bytes-at : (k : ℕ) (s : List ℕ) (at : ℕ) → Bytes s → at + k ≤ length s → bytes_of k (number_at k s at) ≡ part s at k
unfolding number_at
bytes-at k s at y h =
    ap (λ (n : ℕ). bytes_of n (number (part s at k))) (sym (length_part s at k h))
    ∙ bytes-number (part s at k) (bytes-part s at k y)

-- what stands from a place on is its first k bytes and what stands behind them
pub cut_at : (k : ℕ) (s : List ℕ) (at : ℕ) → drop at s ≡ part s at k ++ drop (at + k) s
cut_at k s at = sym (ap (λ (l : List ℕ). part s at k ++ l) (sym (drop-drop k at s)) ∙ take-append-drop k (drop at s))

-- ---- a block that is put

module _ (kind : ℕ) (body : List ℕ) where
  pub length-block : length (block_of kind body) ≡ 6 + length body
  unfolding block_of
  length-block = length-append (block_head (length body) kind) body ∙ ap (λ (n : ℕ). n + length body) (length-head (length body) kind)

  module _ (s pre rest : List ℕ) (at : ℕ) (e : s ≡ pre ++ (block_of kind body ++ rest)) (l : length pre ≡ at) where
    -- behind its head come its body and the rest
    whole : s ≡ pre ++ (block_head (length body) kind ++ (body ++ rest))
    unfolding block_of
    whole = e ∙ ap (λ (x : List ℕ). pre ++ x) (append_assoc (block_head (length body) kind) body rest)

    behind-head : drop (at + 6) s ≡ body ++ rest
    behind-head =
        let h = block_head (length body) kind in
        let six : at + 6 ≡ length pre + (length h + 0) = omega (arith, l, length-head (length body) kind) in
        ap₂ (λ (n : ℕ) (x : List ℕ). drop n x) six whole
        ∙ drop-append-add pre (h ++ (body ++ rest)) (length h + 0)
        ∙ drop-append-add h (body ++ rest) 0

    pub put-body : part s (at + 6) (length body) ≡ body
    put-body = ap (take (length body)) behind-head ∙ take_at body rest (length body) refl

    pub put-stands : kind < 2 ^ 16 → length body < 2 ^ 32 → Stands s at kind (at + 6) (length body)
    put-stands a b =
        let h = block_head (length body) kind in
        let m : at ≡ length pre + 0 = omega (arith, l) in
        let n : at + 4 ≡ length pre + 4 = omega (arith, l) in
        record {
          kind_at = ap₂ (number_at 2) whole n ∙ number-at-append 2 pre (h ++ (body ++ rest)) 4 ∙ head-kind (length body) kind (body ++ rest) ∙ mod-eq_of_lt a;
          len_at = ap₂ (number_at 4) whole m ∙ number-at-append 4 pre (h ++ (body ++ rest)) 0 ∙ head-len (length body) kind (body ++ rest) ∙ mod-eq_of_lt b;
          body_at = refl;
          fits =
              let t : length s ≡ length pre + (length (block_of kind body) + length rest) =
              ap length e ∙ length-append pre (block_of kind body ++ rest) ∙ ap (λ (x : ℕ). length pre + x) (length-append (block_of kind body) rest) in
              omega (arith, t, l, length-block);
        }

-- ---- a block that stands

pub stands-block : (s : List ℕ) (at kind body len : ℕ) → Bytes s → Stands s at kind body len
    → drop at s ≡ block_of kind (part s body len) ++ drop (body + len) s
unfolding block_of block_head
stands-block s at kind body len y k =
    let f = k.fits in
    let g = k.body_at in
    let b4 : part s at 4 ≡ bytes_of 4 len = sym (bytes-at 4 s at y (omega arith)) ∙ ap (bytes_of 4) k.len_at in
    let b2 : part s (at + 4) 2 ≡ bytes_of 2 kind = sym (bytes-at 2 s (at + 4) y (omega arith)) ∙ ap (bytes_of 2) k.kind_at in
    let six : at + 4 + 2 ≡ body = omega arith in
    let rest : List ℕ = part s body len ++ drop (body + len) s in
    let n : len ≡ length (part s body len) = sym (length_part s body len f) in
    cut_at 4 s at
    ∙ ap₂ (λ (x z : List ℕ). x ++ z) b4
    (cut_at 2 s (at + 4) ∙ ap₂ (λ (x z : List ℕ). x ++ z) b2 (ap (λ (i : ℕ). drop i s) six ∙ cut_at len s body))
    ∙ sym (append_assoc (bytes_of 4 len) (bytes_of 2 kind) rest)
    ∙ ap (λ (i : ℕ). block_head i kind ++ rest) n
    ∙ sym (append_assoc (block_head (length (part s body len)) kind) (part s body len) (drop (body + len) s))
