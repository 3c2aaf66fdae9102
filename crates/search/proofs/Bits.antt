-- A number's bits as places: the bits of ascending places give those places back, and a number may be read a word at a time. Assumes nothing.
use mathlib.Core.Path.{◌≡◌, refl, sym, ap, ◌∙◌}
use mathlib.Core.Bool.{Bool, true, false, cond}
use mathlib.Core.List.{List, [], ◌∷◌, ◌++◌, append-nil, append_assoc}
use Prim.Native.Nat.{ℕ, zero, suc, ◌+◌, ◌*◌, ◌/◌, ◌%◌, ◌^◌, ◌≤◌, ◌<◌}
use native.Mathlib.Nat.{div-one}
use native.Mathlib.Omega.{arith}
use lib.Dec.{eqb}
use lib.Pow.{pow_mono, shr-shr, field, mod-mod-pow}
use Rattle.search.specs.Ascending.{Ascending, none, more}
use Rattle.search.specs.Flags.{bits_of, places_in, only_place}

-- the lowest bit's place, if it is set
abbrev pub lowest : ℕ → ℕ → List ℕ
lowest n x = only_place (eqb (x % 2) 1) n

pub places-bit : (n m x : ℕ) → places_in n (suc m) x ≡ lowest n x ++ places_in (suc n) m (x / 2)
unfolding places_in
places-bit n m x = go (eqb (x % 2) 1)
  where
    go : (b : Bool) → cond b (n ∷ places_in (suc n) m (x / 2)) (places_in (suc n) m (x / 2)) ≡ cond b (n ∷ []) [] ++ places_in (suc n) m (x / 2)
    go true = refl
    go false = refl

-- of no bits there are none
pub places-none : (n x : ℕ) → places_in n 0 x ≡ []
unfolding places_in
places-none n x = refl

-- 0 has none
pub places-zero : (n m : ℕ) → places_in n m 0 ≡ []
unfolding places_in
places-zero n zero = refl
places-zero n (suc m) = places-zero (suc n) m

-- a bit above a number
bit-above : (p n m x : ℕ) → x < 2 ^ p → p < m → places_in n m (x + 2 ^ p) ≡ places_in n m x ++ ((n + p) ∷ [])
bit-above p n zero x h k = absurd (omega arith)
bit-above zero n (suc m) x h k =
    let z : x ≡ 0 = omega arith in
    let o : x + 2 ^ 0 ≡ 1 = omega arith in
    let q : n + 0 ≡ n = omega arith in
    ap (places_in n (suc m)) o
    ∙ places-bit n m 1
    ∙ ap (λ (l : List ℕ). n ∷ l) (places-zero (suc n) m)
    ∙ sym (ap (λ (y : ℕ). places_in n (suc m) y ++ ((n + 0) ∷ [])) z ∙ ap (λ (l : List ℕ). l ++ ((n + 0) ∷ [])) (places-zero n (suc m)) ∙ ap (λ (y : ℕ). y ∷ []) q)
bit-above (suc p) n (suc m) x h k =
    let d : 2 ^ suc p ≡ 2 ^ p * 2 = omega arith in
    let half : (x + 2 ^ suc p) / 2 ≡ x / 2 + 2 ^ p = omega arith in
    let odd : (x + 2 ^ suc p) % 2 ≡ x % 2 = omega arith in
    let q : suc n + p ≡ n + suc p = omega arith in
    places-bit n m (x + 2 ^ suc p)
    ∙ (λ i. cond (eqb (odd i) 1) (n ∷ []) [] ++ places_in (suc n) m (half i))
    ∙ ap (λ (l : List ℕ). lowest n x ++ l) (bit-above p (suc n) m (x / 2) (omega arith) (omega arith))
    ∙ ap (λ (y : ℕ). lowest n x ++ (places_in (suc n) m (x / 2) ++ (y ∷ []))) q
    ∙ sym (append_assoc (lowest n x) (places_in (suc n) m (x / 2)) ((n + suc p) ∷ []))
    ∙ ap (λ (l : List ℕ). l ++ ((n + suc p) ∷ [])) (sym (places-bit n m x))

-- ascending places above a number
pub places-back : {m : ℕ} (n : ℕ) (l : List ℕ) (x : ℕ) → x < 2 ^ n → Ascending m n l → places_in 0 m (x + bits_of l) ≡ places_in 0 m x ++ l
unfolding bits_of
places-back {m = m} n [] x h none = let z : x + 0 ≡ x = omega arith in ap (places_in 0 m) z ∙ sym (append-nil (places_in 0 m x))
places-back {m = m} n (p ∷ l) x h (more a b r) =
    let t : 2 ^ n ≤ 2 ^ p = pow_mono {i = n} {j = p} a in
    let d : 2 ^ suc p ≡ 2 ^ p * 2 = omega arith in
    let q : 0 + p ≡ p = omega arith in
    let z : x + (2 ^ p + bits_of l) ≡ x + 2 ^ p + bits_of l = omega arith in
    ap (places_in 0 m) z
    ∙ places-back (suc p) l (x + 2 ^ p) (omega arith) r
    ∙ ap (λ (k : List ℕ). k ++ l) (bit-above p 0 m x (omega arith) b ∙ ap (λ (y : ℕ). places_in 0 m x ++ (y ∷ [])) q)
    ∙ append_assoc (places_in 0 m x) (p ∷ []) l

-- the low k bits, and then the others
pub places-split : (k n m x : ℕ) → places_in n (k + m) x ≡ places_in n k (x % 2 ^ k) ++ places_in (n + k) m (x / 2 ^ k)
unfolding places_in
places-split zero n m x =
    let a : 0 + m ≡ m = omega arith in
    let b : n ≡ n + 0 = omega arith in
    let d : x ≡ x / 2 ^ 0 = sym (div-one x) in
    ap (λ (j : ℕ). places_in n j x) a ∙ (λ i. places_in (b i) m (d i))
places-split (suc k) n m x =
    let a : suc k + m ≡ suc (k + m) = omega arith in
    let b : suc n + k ≡ n + suc k = omega arith in
    let e : k + 1 ≡ suc k = omega arith in
    let f : 1 + k ≡ suc k = omega arith in
    let odd : x % 2 ≡ x % 2 ^ suc k % 2 = sym (mod-mod-pow x k 1) ∙ ap (λ (j : ℕ). x % 2 ^ j % 2) e in
    let half : x / 2 % 2 ^ k ≡ x % 2 ^ suc k / 2 = sym (field x k 1) ∙ ap (λ (j : ℕ). x % 2 ^ j / 2) e in
    let up : x / 2 / 2 ^ k ≡ x / 2 ^ suc k = shr-shr x 1 k ∙ ap (λ (j : ℕ). x / 2 ^ j) f in
    ap (λ (j : ℕ). places_in n j x) a
    ∙ places-bit n (k + m) x
    ∙ ap (λ (l : List ℕ). lowest n x ++ l) (places-split k (suc n) m (x / 2))
    ∙ (λ i. cond (eqb (odd i) 1) (n ∷ []) [] ++ (places_in (suc n) k (half i) ++ places_in (b i) m (up i)))
    ∙ sym (append_assoc (lowest n (x % 2 ^ suc k)) (places_in (suc n) k (x % 2 ^ suc k / 2)) (places_in (n + suc k) m (x / 2 ^ suc k)))
    ∙ ap (λ (l : List ℕ). l ++ places_in (n + suc k) m (x / 2 ^ suc k)) (sym (places-bit n k (x % 2 ^ suc k)))
