-- A block's head: "All numbers little-endian. Each block: length of the body (u32), kind (u16), body." Assumes nothing.
use Rattle.std.specs.Prelude.{ℕ, ◌+◌, Bool, ◌&&◌, List, ◌++◌, length, leb}
use Rattle.answer.specs.Table.{lengths}
use Rattle.answer.specs.Refusal.{because}
use Rattle.answer.specs.Outcome.{Out, ok, need}
use Rattle.block.specs.declared.Block.{Block}
use Rattle.le.specs.Number.{number_at, bytes_of}

-- the bytes of a head: four of the length, two of the kind
abbrev pub head_bytes : ℕ
head_bytes = 6

-- the length that the head at a place says
abbrev pub len_at : List ℕ → ℕ → ℕ
len_at s at = number_at 4 s at

-- the kind that it says
abbrev pub kind_at : List ℕ → ℕ → ℕ
kind_at s at = number_at 2 s (at + 4)

-- "six bytes and the body present"
unfoldable pub present_at : List ℕ → ℕ → Bool
present_at s at = leb (at + head_bytes) (length s) && leb (at + head_bytes + len_at s at) (length s)

-- the block whose head stands at a place
unfoldable pub block_at : List ℕ → ℕ → Out Block
block_at s at =
    need (present_at s at) (because lengths)
    (ok (record { kind = kind_at s at; body = at + head_bytes; len = len_at s at }))

-- the head of a block, as bytes
unfoldable pub block_head : ℕ → ℕ → List ℕ
block_head len kind = bytes_of 4 len ++ bytes_of 2 kind
