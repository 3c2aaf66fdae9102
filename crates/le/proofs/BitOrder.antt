-- The definitions say what the document does: "Bit k of the column is bit k mod 8 of byte k/8, lowest first, and each field goes low bit
-- first." Assumes nothing.
use mathlib.Core.Path.{◌≡◌, sym, ap, ◌∙◌}
use mathlib.Core.List.{List}
use Prim.Native.Nat.{ℕ, ◌+◌, ◌*◌, ◌/◌, ◌%◌, ◌^◌, ◌<◌}
use native.Mathlib.Omega.{arith}
use lib.ListN.{get_or}
use Rattle.le.specs.Number.{number, field, Bytes}
use Rattle.le.proofs.Fields.{inside}
use Rattle.le.proofs.Numbers.{byte_at}

-- bit k of the bytes is bit k mod 8 of byte k / 8
pub bit-of-byte : (s : List ℕ) (k : ℕ) → Bytes s → number s / 2 ^ k % 2 ≡ get_or s (k / 8) 0 / 2 ^ (k % 8) % 2
bit-of-byte s k h =
    let e : 8 * (k / 8) + k % 8 ≡ k = omega arith in
    sym (ap (λ (x : ℕ). x / 2 ^ (k % 8) % 2) (sym (byte_at s (k / 8) h))
    ∙ inside (number s) (8 * (k / 8)) 8 (k % 8) 1 (omega arith)
    ∙ ap (λ (j : ℕ). number s / 2 ^ j % 2) e)

-- bit j of a field is bit at + j of what it is a field of
pub bit-of-field : (b at w j : ℕ) → j < w → field b at w / 2 ^ j % 2 ≡ b / 2 ^ (at + j) % 2
bit-of-field b at w j h = inside b at w j 1 (omega arith)
