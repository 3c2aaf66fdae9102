-- Laws of steps and their zigzag, over the pattern size P: each undoes the other, and what the code computes is the definition. Assumes nothing.
use Rattle.std.proofs.Common.{◌≡◌, ℕ, ◌+◌, ◌-◌, ◌*◌, ◌/◌, ◌%◌, ◌^◌, ◌<◌, ◌≤◌, Bool, true, false, eqb, ltb, sym, refl, ap, ◌∙◌, inl, inr, ⊎_elim, mod-lt, mod-eq_of_lt, add-sub_of_le, arith, pow_pos, pow-add, ltb-false, ltb-true, le-ltb, lt-ltb, eq-eqb, ne_eqb, eqb-true}
use native.Mathlib.Nat.{add-mod-mod, add-mod_right}
use native.Mathlib.Decide.{dec_lt}
use lib.Pow.{ones_split, high, ones_lt}
use borrow.Author.Tests.{eqb-false}
use Rattle.entry.specs.Step.{step, zigzag, unzigzag, z_of, marker}

-- ---- the two halves

zig-even : (P d : ℕ) → d * 2 < 2 ^ P → zigzag P d ≡ d * 2
unfolding zigzag
zig-even P d h = simp (lt-ltb _ _ h)

zig-odd : (P d : ℕ) → 2 ^ P ≤ d * 2 → zigzag P d ≡ (2 ^ P - d) * 2 - 1
unfolding zigzag
zig-odd P d h = simp (le-ltb _ _ h)

unzig-even : (P z : ℕ) → z % 2 ≡ 0 → unzigzag P z ≡ z / 2
unfolding unzigzag
unzig-even P z h = simp (eq-eqb _ _ h)

unzig-odd : (P z : ℕ) → (z % 2 ≡ 0 → ⊥) → unzigzag P z ≡ 2 ^ P - 1 - z / 2
unfolding unzigzag
unzig-odd P z h = simp (ne_eqb _ _ h)

-- ---- each undoes the other

pub unzig-zig : (P d : ℕ) → d < 2 ^ P → unzigzag P (zigzag P d) ≡ d
unzig-zig P d h = go (ltb (d * 2) (2 ^ P)) refl
  where
    go : (t : Bool) → ltb (d * 2) (2 ^ P) ≡ t → unzigzag P (zigzag P d) ≡ d
    go true e = ap (unzigzag P) (zig-even P d (ltb-true _ _ e)) ∙ unzig-even P (d * 2) (omega arith) ∙ (omega arith)
    go false e =
        let l : 2 ^ P ≤ d * 2 = ltb-false _ _ e in
        ap (unzigzag P) (zig-odd P d l) ∙ unzig-odd P ((2 ^ P - d) * 2 - 1) (λ q. omega arith) ∙ (omega arith)

-- 2 ^ P is even where a number is below it and odd
pub zig-unzig : (P z : ℕ) → 0 < P → z < 2 ^ P → zigzag P (unzigzag P z) ≡ z
zig-unzig P z p h = go (eqb (z % 2) 0) refl
  where
    even : 2 ^ P ≡ 2 * 2 ^ (P - 1)
    even = let e : 1 + (P - 1) ≡ P = omega arith in ap (λ (k : ℕ). 2 ^ k) (sym e) ∙ pow-add 2 1 (P - 1)

    go : (t : Bool) → eqb (z % 2) 0 ≡ t → zigzag P (unzigzag P z) ≡ z
    go true e =
        let q : z % 2 ≡ 0 = eqb-true _ _ e in
        ap (zigzag P) (unzig-even P z q) ∙ zig-even P (z / 2) (omega arith) ∙ (omega arith)
    go false e =
        let q : z % 2 ≡ 0 → ⊥ = eqb-false _ _ e in
        let o : z % 2 ≡ 1 = omega arith in
        ap (zigzag P) (unzig-odd P z q) ∙ zig-odd P (2 ^ P - 1 - z / 2) (omega (arith, even)) ∙ (omega (arith, even))

-- the step from a, added to a, is the value
step_back : (P a v : ℕ) → a < 2 ^ P → v < 2 ^ P → (a + step P a v) % 2 ^ P ≡ v
step_back P a v ha hv =
    let e : a + (v + 2 ^ P - a) ≡ v + 2 ^ P = omega arith in
    add-mod-mod a (v + 2 ^ P - a) (2 ^ P) ∙ ap (λ (x : ℕ). x % 2 ^ P) e ∙ add-mod_right v (2 ^ P) ∙ mod-eq_of_lt hv

-- what is a step above a is a plus that step: the one r below M with (r + a) mod M = v
pub sub-law : (M r a v : ℕ) → r < M → a < M → (r + a) % M ≡ v → r ≡ (v + M - a) % M
sub-law M r a v hr ha e =
    ⊎_elim under over (elim (dec_lt (r + a) M) [ yes l ↦ inl l | no l ↦ inr (omega arith) ])
  where
    under : r + a < M → r ≡ (v + M - a) % M
    under l =
        let q : v ≡ r + a = sym e ∙ mod-eq_of_lt l in
        let f : v + M - a ≡ r + M = omega arith in
        sym (ap (λ (x : ℕ). x % M) f ∙ add-mod_right r M ∙ mod-eq_of_lt hr)

    over : M ≤ r + a → r ≡ (v + M - a) % M
    over l =
        let g : (r + a - M) + M ≡ r + a = omega arith in
        let k : r + a - M < M = omega arith in
        let q : v ≡ r + a - M = sym e ∙ ap (λ (x : ℕ). x % M) (sym g) ∙ add-mod_right (r + a - M) M ∙ mod-eq_of_lt k in
        let f : v + M - a ≡ r = omega arith in
        sym (ap (λ (x : ℕ). x % M) f ∙ mod-eq_of_lt hr)

-- reading a step: the value comes back
pub next-back : (P a v : ℕ) → a < 2 ^ P → v < 2 ^ P → (a + unzigzag P (z_of P a v)) % 2 ^ P ≡ v
next-back P a v ha hv =
    ap (λ (x : ℕ). (a + x) % 2 ^ P) (unzig-zig P (step P a v) (mod-lt (v + 2 ^ P - a) (pow_pos P))) ∙ step_back P a v ha hv

unzig-lt : (P z : ℕ) → z < 2 ^ P → unzigzag P z < 2 ^ P
unzig-lt P z h = go (eqb (z % 2) 0) refl
  where
    go : (t : Bool) → eqb (z % 2) 0 ≡ t → unzigzag P z < 2 ^ P
    go true e = omega (arith, unzig-even P z (eqb-true _ _ e))
    go false e = omega (arith, unzig-odd P z (eqb-false _ _ e))

-- writing what was read: the z comes back
pub z-back : (P a z : ℕ) → 0 < P → a < 2 ^ P → z < 2 ^ P → z_of P a ((a + unzigzag P z) % 2 ^ P) ≡ z
z-back P a z p ha hz =
    let u : ℕ = unzigzag P z in
    let f : u + a ≡ a + u = omega arith in
    let e : u ≡ step P a ((a + u) % 2 ^ P) = sub-law (2 ^ P) u a ((a + u) % 2 ^ P) (unzig-lt P z hz) ha (ap (λ (x : ℕ). x % 2 ^ P) f) in
    ap (zigzag P) (sym e) ∙ zig-unzig P z p hz

-- ---- what the code computes, for a difference d that it has

pub zig-low : (P a v d : ℕ) → d ≡ step P a v → d * 2 < 2 ^ P → d * 2 ≡ z_of P a v
zig-low P a v d e h = sym (ap (zigzag P) (sym e) ∙ zig-even P d h)

pub zig-high : (P a v d : ℕ) → d ≡ step P a v → 2 ^ P ≤ d * 2 → d < 2 ^ P → (2 ^ P - 1 - d) * 2 + 1 ≡ z_of P a v
zig-high P a v d e h l = let q : (2 ^ P - 1 - d) * 2 + 1 ≡ (2 ^ P - d) * 2 - 1 = omega arith in q ∙ sym (ap (zigzag P) (sym e) ∙ zig-odd P d h)

-- n ones out of P
pub marker-law : (P n : ℕ) → n ≤ P → (2 ^ P - 1) / 2 ^ (P - n) ≡ marker n
marker-law P n h =
    let e : n + (P - n) ≡ P = add-sub_of_le h in
    ap (λ (x : ℕ). (2 ^ x - 1) / 2 ^ (P - n)) (sym e)
    ∙ ap (λ (x : ℕ). x / 2 ^ (P - n)) (ones_split n (P - n))
    ∙ high (2 ^ n - 1) (P - n) (ones_lt (P - n))
