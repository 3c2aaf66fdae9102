-- Bytes that stand at a place of others: what is read there, and where the next ones stand. Assumes nothing.
use Prim.Native.Nat.{ℕ, zero, suc, ◌+◌, ◌*◌, ◌^◌, ◌<◌}
use mathlib.Core.Path.{◌≡◌, refl, sym, ap, ap₂, ◌∙◌}
use mathlib.Core.List.{List, ◌∷◌, ◌++◌}
use native.Mathlib.Nat.{mod-eq_of_lt, add_assoc, add-zero}
use lib.ListN.{length, take, drop}
use lib.Seq.{drop-drop, drop_at, take_at}
use Rattle.le.specs.Number.{Fits, number, bytes_of, number_at, numbers_each, numbers_at, run_of}
use Rattle.le.proofs.Bytes.{number-at-bytes_of}
use Rattle.le.proofs.Runs.{numbers-run}

-- what stands behind
pub behind : (s p r : List ℕ) (at next : ℕ) → drop at s ≡ p ++ r → next ≡ at + length p → drop next s ≡ r
behind s p r at next e n = ap (λ (k : ℕ). drop k s) n ∙ sym (drop-drop (length p) at s) ∙ ap (drop (length p)) e ∙ drop_at p r (length p) refl

-- a number
pub number-stands : (k x : ℕ) (s r : List ℕ) (at : ℕ) → x < 2 ^ (8 * k) → drop at s ≡ bytes_of k x ++ r → number_at k s at ≡ x
unfolding number_at
number-stands k x s r at h e = ap (λ (l : List ℕ). number (take k l)) e ∙ number-at-bytes_of k x r ∙ mod-eq_of_lt h

-- a run, read from a place on, is read from the first byte on of what stands there
numbers-drop : (k n : ℕ) (s : List ℕ) (a j : ℕ) → numbers_at k n (drop a s) j ≡ numbers_at k n s (a + j)
unfolding numbers_each number_at
numbers-drop k zero s a j = refl
numbers-drop k (suc n) s a j =
    ap₂ ◌∷◌ (ap (λ (l : List ℕ). number (take k l)) (drop-drop j a s)) (numbers-drop k n s a (j + k) ∙ ap (numbers_at k n s) (sym (add_assoc a j k)))

pub numbers-stand : (k : ℕ) (xs s r : List ℕ) (at n : ℕ) → n ≡ length xs → Fits (8 * k) xs → drop at s ≡ run_of k xs ++ r → numbers_at k n s at ≡ xs
numbers-stand k xs s r at n z h e =
    ap (numbers_at k n s) (sym (add-zero at))
    ∙ sym (numbers-drop k n s at 0)
    ∙ ap₂ (λ (l : List ℕ) (m : ℕ). numbers_at k m l 0) e z
    ∙ numbers-run k xs r h

-- any bytes
pub bytes-stand : (p s r : List ℕ) (at n : ℕ) → n ≡ length p → drop at s ≡ p ++ r → take n (drop at s) ≡ p
bytes-stand p s r at n z e = ap (take n) e ∙ take_at p r n (sym z)
