-- Shown here: what a read puts behind the bytes that came before it stands behind them, and is what the reader gave. Nothing is assumed.
use Rattle.std.proofs.Common.{◌≡◌, ℕ, ◌+◌, ◌-◌, ◌≤◌, List, ◌++◌, arith, length, take, slice_range, sym, ap, ◌∙◌, subst, le_refl, drop_at, length-take-le}
use Rattle.std.proofs.lemmas.Slice.{take-put_mid_below}
use Rattle.std.specs.declared.option.Option.{Option}
use Rattle.std.specs.Io.KnownBytes.{Consumes, Keeps}
use Rattle.std.proofs.KnownBytes.{Consumes-trans, Consumes-kept}
use borrow.Rule.Slice.PartMut.{put_mid, post_of}
use lib.Seq.{take-add, take-append-le}

-- the first n bytes of ys, put from place at on
put-front : (at k n : ℕ) (xs ys : List ℕ) → at ≤ length xs → n ≤ length ys → slice_range (put_mid at k xs ys) at (at + n) ≡ take n ys
put-front at k n xs ys within fits =
    let same : (at + n) - at ≡ n = omega arith in
    let after = post_of at k xs in
    ap (take ((at + n) - at)) (drop_at (take at xs) (ys ++ after) at (length-take-le at xs within)) ∙ ap (λ m. take m (ys ++ after)) same ∙ take-append-le n ys after fits

-- with those before them they are the first at + n
pub read-joined : (at k n : ℕ) (xs ys : List ℕ) → at ≤ length xs → n ≤ length ys → take at xs ++ take n ys ≡ take (at + n) (put_mid at k xs ys)
read-joined at k n xs ys within fits =
    let new = put_mid at k xs ys in
    let same : at + ((at + n) - at) ≡ at + n = omega arith in
    ap (λ l. take at xs ++ l) (sym (put-front at k n xs ys within fits)) ∙ ap (λ l. l ++ slice_range new at (at + n)) (sym (take-put_mid_below _ _ _ _ _ (le_refl _) within))
    ∙ sym (take-add at ((at + n) - at) new) ∙ ap (λ m. take m new) same

-- what came, and then n bytes more
pub came_more : (a b c : Option (List ℕ)) (at k n : ℕ) (xs ys : List ℕ) → at ≤ length xs → n ≤ length ys → Consumes a b (take at xs) → Consumes b c (take n ys)
    → Consumes a c (take (at + n) (put_mid at k xs ys))
came_more a b c at k n xs ys within fits before next = subst (Consumes a c) (read-joined at k n xs ys within fits) (Consumes-trans a b c _ _ before next)

-- what came, and then no byte more
pub came_none : (a b c : Option (List ℕ)) (at k n : ℕ) (xs ys : List ℕ) → at ≤ length xs → n ≡ 0 → Consumes a b (take at xs) → Consumes b c (take n ys)
    → Consumes a c (take at (put_mid at k xs ys))
came_none a b c at k n xs ys within none before next =
    let fits : n ≤ length ys = omega arith in
    let same : at + n ≡ at = omega arith in
    subst (λ (m : ℕ). Consumes a c (take m (put_mid at k xs ys))) same (came_more a b c at k n xs ys within fits before next)

-- what came, and then a read that failed
pub came_kept : (a b c : Option (List ℕ)) (at k : ℕ) (xs ys : List ℕ) → at ≤ length xs → Consumes a b (take at xs) → Keeps b c → Consumes a c (take at (put_mid at k xs ys))
came_kept a b c at k xs ys within before kept = subst (Consumes a c) (sym (take-put_mid_below _ _ _ _ _ (le_refl _) within)) (Consumes-kept a b c _ before kept)
