-- Laws of a page's counts: the limits that they pass, and that this is all. Assumes nothing.
use Prim.Native.Nat.{ℕ, zero, suc, ◌≤◌, ◌<◌}
use mathlib.Core.Path.{◌≡◌, refl, ◌∙◌}
use mathlib.Core.Bool.{Bool, true, false, ◌&&◌, ◌||◌}
use native.Mathlib.Omega.{arith}
use borrow.Author.Tests.{leb-true, le-leb, lt-leb, eqb-true, eq-eqb}
use lib.Dec.{leb, eqb}
use Rattle.answer.proofs.Both.{both_l, both_r, and-false}
use Rattle.frame.specs.Head.{counts_ok}

-- ---- the limits

pub record Limits (g v p : ℕ) : Type 0 where
  pub some : 1 ≤ g
  pub few : g ≤ 256
  pub vertices : v ≤ 2048
  pub parts : p ≤ v
  pub none : p ≡ 0 → v ≡ 0

-- the one that is left
either : (a b : Bool) → (a || b) ≡ true → a ≡ false → b ≡ true
either true b e n = absurd (let z : ◌≡◌ {A = ℕ} 0 1 = cc in omega arith)
either false b e n = e

pub counts-limits : (g v p : ℕ) → counts_ok g v p ≡ true → Limits g v p
unfolding counts_ok
counts-limits g v p e =
    let d = both_l (leb 1 g && leb g 256 && leb v 2048 && leb p v) (leb 1 p || eqb v 0) e in
    let c = both_l (leb 1 g && leb g 256 && leb v 2048) (leb p v) d in
    let b = both_l (leb 1 g && leb g 256) (leb v 2048) c in
    record {
      some = leb-true 1 g (both_l (leb 1 g) (leb g 256) b);
      few = leb-true g 256 (both_r (leb 1 g) (leb g 256) b);
      vertices = leb-true v 2048 (both_r (leb 1 g && leb g 256) (leb v 2048) c);
      parts = leb-true p v (both_r (leb 1 g && leb g 256 && leb v 2048) (leb p v) d);
      none = λ z. eqb-true v 0
          (either (leb 1 p) (eqb v 0) (both_r (leb 1 g && leb g 256 && leb v 2048 && leb p v) (leb 1 p || eqb v 0) e) (lt-leb 1 p (omega arith)));
    }

-- ---- each way through `counts_ok`

-- each test that fails is a refusal, whatever the others say
module _ (g v p : ℕ) where
  pub counts-empty : g < 1 → counts_ok g v p ≡ false
  unfolding counts_ok
  counts-empty h = rw (lt-leb 1 g h)

  pub counts-many : 256 < g → counts_ok g v p ≡ false
  unfolding counts_ok
  counts-many h = rw (and-false (leb 1 g) (leb g 256) (lt-leb g 256 h))

  pub counts-vertices : 2048 < v → counts_ok g v p ≡ false
  unfolding counts_ok
  counts-vertices h = rw (and-false (leb 1 g && leb g 256) (leb v 2048) (lt-leb v 2048 h))

  pub counts-parts : v < p → counts_ok g v p ≡ false
  unfolding counts_ok
  counts-parts h = rw (and-false (leb 1 g && leb g 256 && leb v 2048) (leb p v) (lt-leb p v h))

-- the last of the five tests, where the others passed
module _ (g v p : ℕ) (a : 1 ≤ g) (b : g ≤ 256) (c : v ≤ 2048) (d : p ≤ v) where
  pub counts-last : counts_ok g v p ≡ (leb 1 p || eqb v 0)
  unfolding counts_ok
  counts-last = rw (le-leb 1 g a, le-leb g 256 b, le-leb v 2048 c, le-leb p v d)

  pub counts-none : p < 1 → counts_ok g v p ≡ eqb v 0
  counts-none n = counts-last ∙ rw (lt-leb 1 p n)

  pub counts_some : 1 ≤ p → counts_ok g v p ≡ true
  counts_some n = counts-last ∙ rw (le-leb 1 p n)

-- counts within the limits pass
pub limits-counts : (g v p : ℕ) → Limits g v p → counts_ok g v p ≡ true
limits-counts g v zero l = counts-none g v 0 l.some l.few l.vertices l.parts (omega arith) ∙ eq-eqb v 0 (l.none refl)
limits-counts g v (suc p) l = counts_some g v (suc p) l.some l.few l.vertices l.parts (omega arith)
