-- Shown here: the query block at the front of an input is told by its own bytes: what stands behind it counts for nothing. Nothing is assumed.
use mathlib.Core.Path.{◌≡◌, refl, sym, ap, ◌∙◌}
use mathlib.Core.List.{List}
use Prim.Native.Nat.{ℕ, ◌≤◌}
use native.Mathlib.Omega.{arith}
use lib.ListN.{take, length-take}
use Rattle.answer.specs.declared.Refusal.{Refusal}
use Rattle.answer.specs.Outcome.{Out, refused, ok}
use Rattle.answer.proofs.Outcomes.{never}
use Rattle.block.specs.declared.Block.{Block}
use Rattle.le.proofs.Bytes.{number-at-part}
use Rattle.block.proofs.Blocks.{block-found, block-says}
use Rattle.query.specs.Block.{block_len}
use Rattle.query.proofs.Good.{len-fronts, fronts-len, len-fits, len_short}
use Rattle.query.proofs.Refusals.{len-only}

-- of the first m bytes, which hold it, and of all of them: each from the other
module _ (s : List ℕ) (m n : ℕ) where
  pub len-within : n ≤ m → block_len s ≡ ok n → block_len (take m s) ≡ ok n
  len-within h e =
      let f = len-fronts s n e in
      let b = f.block in
      let q = (block-says s 0 b f.found).1 in
      fronts-len (take m s) n (record {
        block = record { kind = b.kind; body = 6; len = b.len };
        found =
            block-found (take m s) 0 b.kind b.len (sym (ap (λ (k : Block). k.kind) q) ∙ sym (number-at-part 2 m 0 4 s (omega (arith, f.takes))))
            (sym (ap (λ (k : Block). k.len) q) ∙ sym (number-at-part 4 m 0 0 s (omega (arith, f.takes)))) (omega (arith, f.takes, len-fits s n e, length-take m s));
        kind = f.kind;
        body = f.body;
        takes = f.takes;
      })

  pub len-longer : block_len (take m s) ≡ ok n → block_len s ≡ ok n
  len-longer e =
      let f = len-fronts (take m s) n e in
      let b = f.block in
      let q = (block-says (take m s) 0 b f.found).1 in
      let h = len-fits (take m s) n e in
      let z = length-take m s in
      fronts-len s n (record {
        block = record { kind = b.kind; body = 6; len = b.len };
        found =
            block-found s 0 b.kind b.len (sym (ap (λ (k : Block). k.kind) q) ∙ number-at-part 2 m 0 4 s (omega (arith, f.takes, h, z)))
            (sym (ap (λ (k : Block). k.len) q) ∙ number-at-part 4 m 0 0 s (omega (arith, f.takes, h, z))) (omega (arith, f.takes, h, z));
        kind = f.kind;
        body = f.body;
        takes = f.takes;
      })

-- so where there are at least as many bytes as the longest block takes, no more are needed to tell
pub len-first : (s : List ℕ) (m : ℕ) → 38 ≤ m → block_len (take m s) ≡ block_len s
len-first s m h = go (block_len s) refl
  where
    cut : (w : Refusal) → block_len s ≡ refused w → (o : Out ℕ) → block_len (take m s) ≡ o → block_len (take m s) ≡ refused w
    cut w e (refused x) q = q ∙ ap refused (len-only (take m s) x q ∙ sym (len-only s w e))
    cut w e (ok n) q = absurd (never (sym e ∙ len-longer s m n q))

    go : (o : Out ℕ) → block_len s ≡ o → block_len (take m s) ≡ block_len s
    go (refused w) e = cut w e (block_len (take m s)) refl ∙ sym e
    go (ok n) e = len-within s m n (omega (arith, len_short s n e)) e ∙ sym e
