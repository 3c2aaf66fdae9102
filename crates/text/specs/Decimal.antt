-- A number in decimal, as the programs print it: its digits' ASCII codes. Assumes nothing.
use Rattle.std.specs.Prelude.{ℕ, zero, suc, ◌+◌, ◌/◌, ◌%◌, cond, List, [], ◌∷◌, ◌++◌, ltb}

-- a number of at most k digits in decimal: the digits before its last one, where there are any, and then that one
unfoldable pub digits_of : ℕ → ℕ → List ℕ
digits_of zero n = []
digits_of (suc k) n = cond (ltb n 10) ((48 + n) ∷ []) (digits_of k (n / 10) ++ ((48 + n % 10) ∷ []))

-- a number of 64 bits takes at most 20
unfoldable pub decimal : ℕ → List ℕ
decimal n = digits_of 20 n
