-- Laws of the n-th of some shapes. Assumes nothing.
use mathlib.Core.Path.{◌≡◌, refl, ap, ◌∙◌}
use mathlib.Core.List.{List, [], ◌∷◌, ◌++◌}
use Prim.Native.Nat.{ℕ, zero, suc, ◌-◌, ◌≤◌, ◌<◌}
use native.Mathlib.Omega.{arith}
use lib.ListN.{length, drop}
use Rattle.answer.specs.Table as table
use Rattle.answer.specs.Refusal.{because}
use Rattle.answer.specs.Outcome.{refused, ok}
use Rattle.shape.specs.Outline.{Shape}
use Rattle.place.specs.Nth.{shape_at}

-- 17, where there are not so many
pub nth-none : (n : ℕ) (l : List Shape) → length l ≤ n → shape_at n l ≡ refused (because table.place)
unfolding shape_at
nth-none n [] h = refl
nth-none zero (x ∷ l) h = absurd (omega arith)
nth-none (suc n) (x ∷ l) h = nth-none n l (omega arith)

-- and else a shape
pub nth-some : (n : ℕ) (l : List Shape) → n < length l → (x : Shape) × (shape_at n l ≡ ok x)
unfolding shape_at
nth-some n [] h = absurd (omega arith)
nth-some zero (x ∷ l) h = (x, refl)
nth-some (suc n) (x ∷ l) h = nth-some n l (omega arith)

-- the one with which those from n on begin
pub nth_drop : (n : ℕ) (l m : List Shape) (x : Shape) → drop n l ≡ x ∷ m → shape_at n l ≡ ok x
unfolding shape_at
nth_drop zero [] m x e = absurd (let z : ◌≡◌ {A = ℕ} 0 (suc (length m)) = ap length e in omega arith)
nth_drop zero (y ∷ l) m x e = let z : y ≡ x = cc in ap ok z
nth_drop (suc n) [] m x e = absurd (let z : ◌≡◌ {A = ℕ} 0 (suc (length m)) = ap length e in omega arith)
nth_drop (suc n) (y ∷ l) m x e = nth_drop n l m x e

-- among the first, or among the others
pub nth_left : (n : ℕ) (a b : List Shape) → n < length a → shape_at n (a ++ b) ≡ shape_at n a
unfolding shape_at
nth_left n [] b h = absurd (omega arith)
nth_left zero (x ∷ a) b h = refl
nth_left (suc n) (x ∷ a) b h = nth_left n a b (omega arith)

pub nth_right : (n : ℕ) (a b : List Shape) → length a ≤ n → shape_at n (a ++ b) ≡ shape_at (n - length a) b
unfolding shape_at
nth_right n [] b h = let e : n ≡ n - 0 = omega arith in ap (λ (k : ℕ). shape_at k b) e
nth_right zero (x ∷ a) b h = absurd (omega arith)
nth_right (suc n) (x ∷ a) b h =
    let e : n - length a ≡ suc n - suc (length a) = omega arith in
    nth_right n a b (omega arith) ∙ ap (λ (k : ℕ). shape_at k b) e
