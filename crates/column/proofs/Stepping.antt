-- Laws of a walk over steps, each of which takes w bits: where one more of n is left, and that all of them end at the same place. Assumes nothing.
use mathlib.Core.Path.{◌≡◌, ap, ◌∙◌}
use Prim.Native.Nat.{ℕ, suc, ◌+◌, ◌-◌, ◌*◌, ◌≤◌, ◌<◌}
use native.Mathlib.Nat.{mul-suc, mul-zero, mul-le-mul}
use native.Mathlib.Decide.{dec_lt}
use native.Mathlib.Omega.{arith}

-- before the place where the steps that are left would end, one is left
pub step_left : (w n i at e : ℕ) → at < e → e ≤ at + w * (n - i) → i < n
step_left w n i at e h l =
    elim (dec_lt i n) [
      | yes k ↦ k
      | no k ↦
          let z : n - i ≡ 0 = omega arith in
          let q : w * (n - i) ≡ 0 = ap (λ (k : ℕ). w * k) z ∙ mul-zero w in
          omega (arith, q)
    ]

-- after one more the others still end there
pub step-on : (w n i at : ℕ) → i < n → at + w + w * (n - (i + 1)) ≡ at + w * (n - i)
step-on w n i at h =
    let q : n - i ≡ suc (n - (i + 1)) = omega arith in
    let s : w * (n - i) ≡ w + w * (n - (i + 1)) = ap (λ (k : ℕ). w * k) q ∙ mul-suc w (n - (i + 1)) ∙ omega arith in
    omega (arith, s)

-- the steps of a column take few bits
pub steps-few : (w k : ℕ) → w ≤ 64 → k ≤ 2048 → w * k ≤ 131072
steps-few w k h l = let q : w * k ≤ 64 * 2048 = mul-le-mul h l in omega (arith, q)
