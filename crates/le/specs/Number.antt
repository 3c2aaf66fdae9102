-- The number that bytes are, and the fields of its bits. All numbers are little-endian; bit k of a run of bytes is bit k mod 8 of byte k / 8,
-- lowest first. So the bytes are one number, whose bit k that is. Assumes nothing.
use Rattle.std.specs.Prelude.{ℕ, zero, suc, ◌+◌, ◌*◌, ◌/◌, ◌%◌, ◌^◌, ◌<◌, List, [], ◌∷◌, ◌++◌, get_or, take, drop}

-- each of the list is a number of so many bits
abbrev pub Fits : ℕ → List ℕ → Type 0
Fits bits l = (i : ℕ) → get_or l i 0 < 2 ^ bits

-- each of the list is a byte
abbrev pub Bytes : List ℕ → Type 0
Bytes s = Fits 8 s

-- the number that bytes are, the first lowest
unfoldable pub number : List ℕ → ℕ
number [] = 0
number (b ∷ bs) = number bs * 256 + b

-- the k low bytes of a number, the lowest first
unfoldable pub bytes_of : ℕ → ℕ → List ℕ
bytes_of zero x = []
bytes_of (suc k) x = x % 256 ∷ bytes_of k (x / 256)

-- the number of the k bytes from place at on
unfoldable pub number_at : ℕ → List ℕ → ℕ → ℕ
number_at k s at = number (take k (drop at s))

-- n numbers of k bytes each, the first at place at and each next one a stride further on
unfoldable pub numbers_each : ℕ → ℕ → ℕ → List ℕ → ℕ → List ℕ
numbers_each stride k zero s at = []
numbers_each stride k (suc n) s at = number_at k s at ∷ numbers_each stride k n s (at + stride)

-- one after the other
abbrev pub numbers_at : ℕ → ℕ → List ℕ → ℕ → List ℕ
numbers_at k n s at = numbers_each k k n s at

-- numbers as bytes, k bytes each, one after the other
unfoldable pub run_of : ℕ → List ℕ → List ℕ
run_of k [] = []
run_of k (x ∷ xs) = bytes_of k x ++ run_of k xs

-- the field of w bits from bit place k on of a number, low bit first; a number has zero bits without end
abbrev pub field : ℕ → ℕ → ℕ → ℕ
field b k w = b / 2 ^ k % 2 ^ w
