-- Laws of a copy into the start of a list. Assumes nothing.
use mathlib.Core.Path.{◌≡◌, sym, ap, ◌∙◌}
use mathlib.Core.List.{List, ◌++◌}
use Prim.Native.Nat.{ℕ, suc, ◌+◌, ◌<◌}
use native.Mathlib.Numerals.{add-one}
use native.Mathlib.Omega.{arith}
use lib.ListN.{length, get_or, set, take, drop}
use lib.Seq.{drop-cons, take-suc, set_at, append_snoc, length-take-le}

-- one more
pub copy_more : (src old dst : List ℕ) (i : ℕ) → i < length old → i < length src → dst ≡ take i src ++ drop i old
    → set dst i (get_or src i 0) ≡ take (i + 1) src ++ drop (i + 1) old
copy_more src old dst i h l e =
    ap (λ (x : List ℕ). set x i (get_or src i 0)) (e ∙ ap (λ (x : List ℕ). take i src ++ x) (drop-cons old i 0 h))
    ∙ set_at (take i src) (get_or old i 0) (drop (suc i) old) (get_or src i 0) i (length-take-le i src (omega arith))
    ∙ sym (append_snoc (take i src) (get_or src i 0) (drop (suc i) old))
    ∙ ap (λ (x : List ℕ). x ++ drop (suc i) old) (sym (take-suc src i 0 l))
    ∙ ap (λ (k : ℕ). take k src ++ drop k old) (sym (add-one i))
