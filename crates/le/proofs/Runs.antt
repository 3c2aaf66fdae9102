-- Laws of runs of numbers of k bytes each. Assumes nothing.
use Prim.Native.Nat.{ℕ, zero, suc, ◌+◌, ◌*◌, ◌%◌, ◌^◌, ◌≤◌, ◌<◌}
use mathlib.Core.Path.{◌≡◌, refl, sym, ap, ap₂, ◌∙◌}
use mathlib.Core.List.{List, [], ◌∷◌, ◌++◌, append-nil, append_assoc}
use native.Mathlib.Nat.{mod-eq_of_lt}
use native.Mathlib.Numerals.{add-one}
use native.Mathlib.Omega.{arith}
use lib.ListN.{length, length-append, get_or, set, take, drop}
use lib.Seq.{take_all, drop-length, take-suc, length-take-le, sets}
use Rattle.le.proofs.Bytes.{length-bytes_of, number-at-append, number-at-bytes_of}
use Rattle.le.proofs.Stores.{sets-append}
use Rattle.le.specs.Number.{Fits, bytes_of, number_at, numbers_each, numbers_at, run_of}

pub length-numbers : (stride k n : ℕ) (s : List ℕ) (at : ℕ) → length (numbers_each stride k n s at) ≡ n
unfolding numbers_each
length-numbers stride k zero s at = refl
length-numbers stride k (suc n) s at = ap suc (length-numbers stride k n s (at + stride))

-- number i of them
pub numbers-at : (stride k n : ℕ) (s : List ℕ) (at i : ℕ) → i < n → get_or (numbers_each stride k n s at) i 0 ≡ number_at k s (at + stride * i)
unfolding numbers_each
numbers-at stride k zero s at i h = absurd (let z : 1 ≤ 0 = omega arith in omega arith)
numbers-at stride k (suc n) s at zero h = ap (number_at k s) (omega arith)
numbers-at stride k (suc n) s at (suc i) h =
    numbers-at stride k n s (at + stride) i (omega arith) ∙ ap (number_at k s) (let e : at + stride + stride * i ≡ at + stride * suc i = omega arith in e)

-- all of them, and nothing behind
pub run-whole : (k n : ℕ) (s : List ℕ) (at i : ℕ) (d : List ℕ) → i ≡ n → length d ≡ n → take i (numbers_at k n s at) ++ drop i d ≡ numbers_at k n s at
run-whole k n s at i d e l =
    let f : i ≡ length d = omega arith in
    ap₂ (λ (a b : List ℕ). a ++ b)
    (take_all i (numbers_at k n s at) (omega (arith, length-numbers k k n s at)))
    (ap (λ (j : ℕ). drop j d) f ∙ drop-length d)
    ∙ append-nil (numbers_at k n s at)

-- ---- a run that is put

pub length_run : (k : ℕ) (xs : List ℕ) → length (run_of k xs) ≡ k * length xs
unfolding run_of
length_run k [] = omega arith
length_run k (x ∷ xs) = length-append (bytes_of k x) (run_of k xs) ∙ omega (arith, length-bytes_of k x, length_run k xs)

pub run-append : (k : ℕ) (xs ys : List ℕ) → run_of k (xs ++ ys) ≡ run_of k xs ++ run_of k ys
unfolding run_of
run-append k [] ys = refl
run-append k (x ∷ xs) ys = ap (λ (l : List ℕ). bytes_of k x ++ l) (run-append k xs ys) ∙ sym (append_assoc (bytes_of k x) (run_of k xs) (run_of k ys))

run-one : (k x : ℕ) → run_of k (x ∷ []) ≡ bytes_of k x
unfolding run_of
run-one k x = append-nil (bytes_of k x)

-- none put
pub run_none : (k : ℕ) (xs : List ℕ) → run_of k (take 0 xs) ≡ []
unfolding run_of
run_none k xs = refl

-- number i put behind those before it
pub run_more : (k : ℕ) (xs d t u : List ℕ) (at i : ℕ) → i < length xs → t ≡ sets d at (run_of k (take i xs))
    → u ≡ sets t (at + k * i) (bytes_of k (get_or xs i 0)) → u ≡ sets d at (run_of k (take (i + 1) xs))
run_more k xs d t u at i h e f =
    let a = run_of k (take i xs) in
    let n : at + k * i ≡ at + length a = omega (arith, length_run k (take i xs), ap (λ (j : ℕ). k * j) (length-take-le i xs (omega arith))) in
    let g : run_of k (take i xs ++ get_or xs i 0 ∷ []) ≡ a ++ bytes_of k (get_or xs i 0) = run-append k (take i xs) (get_or xs i 0 ∷ []) ∙ ap (λ (l : List ℕ). a ++ l) (run-one k (get_or xs i 0)) in
    f
    ∙ ap₂ (λ (l : List ℕ) (j : ℕ). sets l j (bytes_of k (get_or xs i 0))) e n
    ∙ sym (sets-append a (bytes_of k (get_or xs i 0)) d at)
    ∙ ap (sets d at) (sym g ∙ ap (run_of k) (sym (take-suc xs i 0 h) ∙ ap (λ (j : ℕ). take j xs) (sym (add-one i))))

-- byte i put behind those before it
pub bytes-more : (xs d t : List ℕ) (at i : ℕ) → i < length xs → t ≡ sets d at (take i xs) → set t (at + i) (get_or xs i 0) ≡ sets d at (take (i + 1) xs)
bytes-more xs d t at i h e =
    let n : at + i ≡ at + length (take i xs) = omega (arith, length-take-le i xs (omega arith)) in
    ap₂ (λ (l : List ℕ) (j : ℕ). set l j (get_or xs i 0)) e n
    ∙ sym (sets-append (take i xs) (get_or xs i 0 ∷ []) d at)
    ∙ ap (sets d at) (sym (take-suc xs i 0 h) ∙ ap (λ (j : ℕ). take j xs) (sym (add-one i)))

-- a run behind other bytes
pub numbers-append : (k n : ℕ) (a s : List ℕ) (at : ℕ) → numbers_at k n (a ++ s) (length a + at) ≡ numbers_at k n s at
unfolding numbers_each
numbers-append k zero a s at = refl
numbers-append k (suc n) a s at =
    let e : length a + at + k ≡ length a + (at + k) = omega arith in
    ap₂ ◌∷◌ (number-at-append k a s at) (ap (numbers_at k n (a ++ s)) e ∙ numbers-append k n a s (at + k))

-- a run that was put reads back, where each number fits
pub numbers-run : (k : ℕ) (xs r : List ℕ) → Fits (8 * k) xs → numbers_at k (length xs) (run_of k xs ++ r) 0 ≡ xs
unfolding numbers_each run_of
numbers-run k [] r h = refl
numbers-run k (x ∷ xs) r h =
    let e : 0 + k ≡ length (bytes_of k x) + 0 = omega (arith, length-bytes_of k x) in
    let t = run_of k xs ++ r in
    ap (λ (l : List ℕ). numbers_at k (suc (length xs)) l 0) (append_assoc (bytes_of k x) (run_of k xs) r)
    ∙ ap₂ ◌∷◌
    (number-at-bytes_of k x t ∙ mod-eq_of_lt (h 0))
    (ap (numbers_at k (length xs) (bytes_of k x ++ t)) e ∙ numbers-append k (length xs) (bytes_of k x) t 0 ∙ numbers-run k xs r (λ i. h (suc i)))

-- number i of a run that was put
pub run_at : (k : ℕ) (xs : List ℕ) (i : ℕ) → i < length xs → number_at k (run_of k xs) (k * i) ≡ get_or xs i 0 % 2 ^ (8 * k)
unfolding run_of
run_at k [] i h = absurd (omega arith)
run_at k (x ∷ xs) zero h =
    let e : k * 0 ≡ 0 = omega arith in
    ap (number_at k (bytes_of k x ++ run_of k xs)) e ∙ number-at-bytes_of k x (run_of k xs)
run_at k (x ∷ xs) (suc i) h =
    let e : k * suc i ≡ length (bytes_of k x) + k * i = omega (arith, length-bytes_of k x) in
    ap (number_at k (bytes_of k x ++ run_of k xs)) e ∙ number-at-append k (bytes_of k x) (run_of k xs) (k * i) ∙ run_at k xs i (omega arith)
