-- Laws of ascending places. Assumes nothing.
use mathlib.Core.Path.{◌≡◌}
use mathlib.Core.List.{List, [], ◌∷◌, ◌++◌}
use Prim.Native.Nat.{ℕ, suc, ◌+◌, ◌*◌, ◌^◌, ◌≤◌, ◌<◌}
use native.Mathlib.Omega.{arith}
use lib.ListN.{length}
use lib.Pow.{pow_mono}
use Rattle.search.specs.Ascending.{Ascending, none, more}
use Rattle.search.specs.Flags.{bits_of}

-- with wider ends
pub rising-wider : {to to' : ℕ} (n n' : ℕ) (l : List ℕ) → n' ≤ n → to ≤ to' → Ascending to n l → Ascending to' n' l
rising-wider n n' [] h k none = none
rising-wider n n' (p ∷ l) h k (more a b r) = more {n = n'} {p = p} (omega arith) (omega arith) (rising-wider (suc p) (suc p) l (omega arith) k r)

-- one run after another
pub rising-join : {m to : ℕ} (n : ℕ) (l r : List ℕ) → n ≤ m → m ≤ to → Ascending m n l → Ascending to m r → Ascending to n (l ++ r)
rising-join {m = m} n [] r h k none q = rising-wider m n r h (omega arith) q
rising-join n (p ∷ l) r h k (more a b s) q = more {n = n} {p = p} a (omega arith) (rising-join (suc p) l r (omega arith) k s q)

-- not more than there are places
pub rising-few : {to : ℕ} (n : ℕ) (l : List ℕ) → n ≤ to → Ascending to n l → n + length l ≤ to
rising-few n [] h none = omega arith
rising-few n (p ∷ l) h (more a b r) = let q = rising-few (suc p) l (omega arith) r in omega arith

-- and as bits, above a number below them
pub rising-under : {to : ℕ} (n : ℕ) (l : List ℕ) (x : ℕ) → n ≤ to → Ascending to n l → x < 2 ^ n → x + bits_of l < 2 ^ to
unfolding bits_of
rising-under {to = to} n [] x h none t = let m : 2 ^ n ≤ 2 ^ to = pow_mono {i = n} {j = to} h in omega arith
rising-under n (p ∷ l) x h (more a b r) t =
    let m : 2 ^ n ≤ 2 ^ p = pow_mono {i = n} {j = p} a in
    let d : 2 ^ suc p ≡ 2 ^ p * 2 = omega arith in
    let q = rising-under (suc p) l (x + 2 ^ p) (omega arith) r (omega arith) in
    omega arith
