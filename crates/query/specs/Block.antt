-- The query block: "a query block (kind 4; body empty, 16 or 32 bytes of floats for everything, spot, window)". "An input too short for its query
-- block, or another kind or length, is 1." Assumes nothing.
use Rattle.std.specs.Prelude.{ℕ, ◌+◌, ◌*◌, Bool, ◌&&◌, ◌||◌, cond, List, [], ◌∷◌, ◌++◌, length, eqb}
use Rattle.std.specs.Float.{binary64}
use Rattle.std.specs.Float.Ieee.{of_bits}
use Rattle.answer.specs.declared.Refusal.{Refusal}
use Rattle.answer.specs.Table.{query}
use Rattle.answer.specs.Refusal.{because}
use Rattle.answer.specs.Outcome.{Out, refused, ok, need, on}
use Rattle.block.specs.declared.Block.{Block}
use Rattle.le.specs.Number.{number_at, run_of}
use Rattle.block.specs.Block.{head_bytes, block_at, block_head}
use Rattle.block.specs.Kinds as kinds
use Rattle.extent.specs.Rank.{finite}
use Rattle.extent.specs.declared.bounds.Bounds.{Bounds}
use Rattle.extent.specs.Boxes.{bounds_at, pattern_of, good_form}
use Rattle.extent.specs.Forms.{floats_of}
use Rattle.query.specs.declared.ask.Ask.{Ask}
use Rattle.query.specs.declared.ask.Query.{Query}
use Rattle.query.specs.declared.ask.Query.TheVariants.{Everything, Spot, Window}

-- the same, whatever refusal being this one
unfoldable pub instead : {A : Type 0} → Refusal → Out A → Out A
instead w (refused x) = refused w
instead w (ok a) = ok a

-- ---- the block at the front of an input

-- the bytes of a body: two floats for a spot
abbrev pub spot_bytes : ℕ
spot_bytes = 16

-- four for a window
abbrev pub window_bytes : ℕ
window_bytes = 32

-- the body is empty, or of so many bytes
unfoldable pub body_len : ℕ → Bool
body_len n = eqb n 0 || eqb n spot_bytes || eqb n window_bytes

-- the bytes that a query block takes: its head's and its body's
unfoldable pub len_of : Block → Out ℕ
len_of b = need (eqb b.kind kinds.query && body_len b.len) (because query) (ok (head_bytes + b.len))

-- those of the query block at the front of the bytes s
unfoldable pub block_len : List ℕ → Out ℕ
block_len s = on (instead (because query) (block_at s 0)) len_of

-- ---- what a block asks

-- a spot, if its patterns are finite
unfoldable pub spot_asked : ℕ → ℕ → Out Ask
spot_asked x y = need (finite x && finite y) (because query) (ok (record { query = Spot (of_bits binary64 x) (of_bits binary64 y) }))

-- a window, if its patterns are of good form
unfoldable pub window_asked : Bounds → Out Ask
window_asked p = need (good_form p) (because query) (ok (record { query = Window (floats_of p) }))

-- by its length: everything, a spot, a window
unfoldable pub asked : List ℕ → Out Ask
asked s =
    cond (eqb (length s) head_bytes) (ok (record { query = Everything }))
    (cond (eqb (length s) (head_bytes + spot_bytes)) (spot_asked (number_at 8 s head_bytes) (number_at 8 s (head_bytes + 8)))
    (cond (eqb (length s) (head_bytes + window_bytes)) (window_asked (bounds_at s head_bytes)) (refused (because query))))

-- what the bytes of exactly a query block ask
unfoldable pub ask_of : List ℕ → Out Ask
ask_of s = on (block_len s) (λ n. need (eqb n (length s)) (because query) (asked s))

-- ---- the block of a query, as bytes

-- a query's patterns, in the order of the body
unfoldable pub query_patterns : Query → List ℕ
query_patterns Everything = []
query_patterns (Spot x y) = pattern_of x ∷ pattern_of y ∷ []
query_patterns (Window b) = pattern_of b.least_x ∷ pattern_of b.least_y ∷ pattern_of b.greatest_x ∷ pattern_of b.greatest_y ∷ []

-- its head, and patterns, eight bytes each
abbrev pub block_with : List ℕ → List ℕ
block_with ps = block_head (8 * length ps) kinds.query ++ run_of 8 ps

-- the block of a query
unfoldable pub query_block : Query → List ℕ
query_block q = block_with (query_patterns q)
