-- Order of finite values: a pattern with sign bit 0 has as its rank its low 63 bits, with sign bit 1 minus those; values compare as ranks.
-- So both zeros are equal. A pattern is a number below 2 ^ 64. Assumes nothing.
use Rattle.std.specs.Prelude.{ℕ, ◌+◌, ◌-◌, ◌/◌, ◌%◌, ◌^◌, Bool, true, false, List, ℤ, pos, negsuc, neg_ℤ, ◌==◌, int_le, int_lt, nat_le, nat_lt}
use Rattle.answer.specs.All.{all_of}

-- n, or with sign bit 1 minus n
abbrev pub signed : Bool → ℕ → ℤ
signed false n = pos n
signed true n = neg_ℤ (pos n)

-- by the sign bit, the low 63 bits or minus those
unfoldable pub rank : ℕ → ℤ
rank b = signed (nat_le (2 ^ 63) b) (b % 2 ^ 63)

-- neither an infinity nor a NaN: the 11 bits of the exponent's field are below 2047
unfoldable pub finite : ℕ → Bool
finite b = nat_lt (b / 2 ^ 52 % 2048) 2047

-- all patterns of a list are finite
abbrev pub all_finite : List ℕ → Bool
all_finite = all_of finite

-- two whole numbers are equal
abbrev pub eq_z : ℤ → ℤ → Bool
eq_z (pos a) (pos b) = a == b
eq_z (pos a) (negsuc b) = false
eq_z (negsuc a) (pos b) = false
eq_z (negsuc a) (negsuc b) = a == b

-- the value of a is at most that of b
unfoldable pub at_most : ℕ → ℕ → Bool
at_most a b = int_le (rank a) (rank b)

-- it is below that of b
unfoldable pub below : ℕ → ℕ → Bool
below a b = int_lt (rank a) (rank b)

-- it is that of b
unfoldable pub same_value : ℕ → ℕ → Bool
same_value a b = eq_z (rank a) (rank b)

-- ---- the key of a pattern: its rank raised by 2 ^ 63, a natural number in the same order, by which the code decides; no service speaks of it

-- of a sign and a size n ≤ h: h more than n, or than minus n
abbrev pub key_of : ℕ → Bool → ℕ → ℕ
key_of h false n = h + n
key_of h true n = h - n

-- by the sign bit and the low 63 bits
unfoldable pub key : ℕ → ℕ
key b = key_of (2 ^ 63) (nat_le (2 ^ 63) b) (b % 2 ^ 63)
