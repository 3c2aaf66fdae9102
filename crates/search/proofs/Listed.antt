-- The places of hits: they ascend, and a place is listed if and only if the shape at that place is hit. Assumes nothing.
use mathlib.Core.Path.{◌≡◌, refl, ap, ◌∙◌, subst}
use mathlib.Core.Bool.{Bool, true, false, cond, ◌||◌}
use mathlib.Core.List.{List, [], ◌∷◌, map}
use Prim.Native.Nat.{ℕ, zero, suc, ◌+◌, ◌≤◌, ◌<◌}
use native.Mathlib.Omega.{arith}
use borrow.Author.Tests.{eq-eqb, ne_eqb, eqb-true}
use lib.Dec.{eqb}
use lib.ListN.{length, drop, length-map}
use Rattle.answer.proofs.Both.{not-true, no_both}
use Rattle.query.specs.declared.ask.Ask.{Ask}
use Rattle.query.specs.Ask.{hit}
use Rattle.shape.specs.Outline.{Shape}
use Rattle.search.specs.Ascending.{Ascending, none, more}
use Rattle.search.specs.Listed.{listed}
use Rattle.search.specs.Search.{places_of, hits_from}
use Rattle.search.proofs.Placing.{places-ascend}

-- ---- ascending

pub hits-rise : (a : Ask) (n : ℕ) (ss : List Shape) → Ascending (n + length ss) n (hits_from a n ss)
unfolding hits_from
hits-rise a n ss =
    let z : n + length (map (λ (s : Shape). s.outline) ss) ≡ n + length ss = ap (λ (k : ℕ). n + k) (length-map ss (λ (s : Shape). s.outline)) in
    subst (λ (to : ℕ). Ascending to n (places_of a n (map (λ (s : Shape). s.outline) ss))) z (places-ascend a n (map (λ (s : Shape). s.outline) ss))

-- no other place is listed
pub rising-listed : {to : ℕ} (n : ℕ) (l : List ℕ) (p : ℕ) → Ascending to n l → listed p l ≡ true → (n ≤ p) × (p < to)
unfolding listed
rising-listed n [] p none e = absurd (no_both refl e)
rising-listed {to = to} n (q ∷ l) p (more a b r) e = go (eqb p q) refl e (λ h. rising-listed (suc q) l p r h)
  where
    go : (t : Bool) → eqb p q ≡ t → (t || listed p l) ≡ true → (listed p l ≡ true → (suc q ≤ p) × (p < to)) → (n ≤ p) × (p < to)
    go true z h f = let w : p ≡ q = eqb-true p q z in (omega (arith, w, a), omega (arith, w, b))
    go false z h f = let k = f h in (omega (arith, k.0, a), k.1)

-- ---- if and only if it is hit

pub hit-listed : (i : ℕ) (a : Ask) (n : ℕ) (ss : List Shape) (x : Shape) (rest : List Shape) → drop i ss ≡ x ∷ rest
    → listed (n + i) (hits_from a n ss) ≡ hit a x.outline.xs x.outline.ys
unfolding hits_from places_of listed
hit-listed zero a n [] x rest e = absurd (let z : ◌≡◌ {A = ℕ} 0 (suc (length rest)) = ap length e in omega arith)
hit-listed (suc i) a n [] x rest e = absurd (let z : ◌≡◌ {A = ℕ} 0 (suc (length rest)) = ap length e in omega arith)
hit-listed zero a n (y ∷ ss) x rest e =
    let w : y ≡ x = cc in
    go (hit a y.outline.xs y.outline.ys) ∙ ap (λ (z : Shape). hit a z.outline.xs z.outline.ys) w
  where
    past : listed (n + 0) (places_of a (suc n) (map (λ (s : Shape). s.outline) ss)) ≡ false
    past = not-true _ (λ h. let k = rising-listed (suc n) (places_of a (suc n) (map (λ (s : Shape). s.outline) ss)) (n + 0) (places-ascend a (suc n) (map (λ (s : Shape). s.outline) ss)) h in let b = k.0 in omega arith)

    go : (b : Bool) → listed (n + 0) (cond b (n ∷ places_of a (suc n) (map (λ (s : Shape). s.outline) ss)) (places_of a (suc n) (map (λ (s : Shape). s.outline) ss))) ≡ b
    go true = rw (eq-eqb (n + 0) n (omega arith))
    go false = past
hit-listed (suc i) a n (y ∷ ss) x rest e =
    go (hit a y.outline.xs y.outline.ys) ∙ ap (λ (k : ℕ). listed k (places_of a (suc n) (map (λ (s : Shape). s.outline) ss))) up ∙ hit-listed i a (suc n) ss x rest e
  where
    up : n + suc i ≡ suc n + i
    up = omega arith

    go : (b : Bool) → listed (n + suc i) (cond b (n ∷ places_of a (suc n) (map (λ (s : Shape). s.outline) ss)) (places_of a (suc n) (map (λ (s : Shape). s.outline) ss)))
        ≡ listed (n + suc i) (places_of a (suc n) (map (λ (s : Shape). s.outline) ss))
    go true = rw (ne_eqb (n + suc i) n (λ z. omega arith))
    go false = refl
