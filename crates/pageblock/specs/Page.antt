-- What a page call comes to: 6, 11, 12, 13, 14, 15, and where the room is given 2. Assumes nothing.
use Rattle.std.specs.Prelude.{ℕ, Bool, ◌&&◌, List, leb, eqb, length}
use Rattle.answer.specs.Table as table
use Rattle.answer.specs.Refusal.{because}
use Rattle.answer.specs.Outcome.{Out, ok, need, on}
use Rattle.answer.specs.Rule.{rule}
use Rattle.types.specs.Parts.{parts_rule}
use Rattle.shape.specs.Outline.{Outline, outlines_of}
use Rattle.frame.specs.Head.{counts_ok}
use Rattle.shape.specs.Rules.{outline_rules}
use Rattle.pageblock.specs.Body.{Handed, page_bytes}

-- a type and a part count for each register, and a y for each x
unfoldable pub slices_agree : Handed → Bool
slices_agree i =
    eqb (length i.types) (length i.registers) && eqb (length i.counts) (length i.registers) && eqb (length i.ys) (length i.xs)

-- and g, v, p are within the limits
unfoldable pub counts_hold : Handed → Bool
counts_hold i = slices_agree i && counts_ok (length i.registers) (length i.xs) (length i.lens)

-- 6
unfoldable pub counts_rule : Handed → Out (Unit {0})
counts_rule i = rule (counts_hold i) table.counts

-- the shapes that were handed in, without their registers
abbrev pub outlines : Handed → List Outline
outlines i = outlines_of i.types i.counts i.lens i.xs i.ys

-- the rules: 6, 11, 12, 13, 14, 15
unfoldable pub page_rules : Handed → Out (Unit {0})
page_rules i =
    on (counts_rule i) (λ _.
    on (parts_rule i.types i.counts i.lens (length i.xs)) (λ _.
    outline_rules (outlines i) i.xs i.ys))

-- the bytes of a page's block in an edition, where the rules let it pass
unfoldable pub page_written : ℕ → Handed → Out (List ℕ)
page_written edition i = on (page_rules i) (λ _. ok (page_bytes edition i))

-- 2: bytes for a lent room of so many
unfoldable pub room_for : ℕ → List ℕ → Out (List ℕ)
room_for room bytes = need (leb (length bytes) room) (because table.room) (ok bytes)

-- a page's block for a lent room
unfoldable pub page_block_of : ℕ → ℕ → Handed → Out (List ℕ)
page_block_of edition room i = on (page_written edition i) (room_for room)
