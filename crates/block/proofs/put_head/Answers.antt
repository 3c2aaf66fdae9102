-- `put_head` stores a head: the length, then the kind. Assumes nothing.
use Prim.Native.Nat.{ℕ, ◌+◌}
use mathlib.Core.Path.{ap, ◌∙◌}
use mathlib.Core.List.{List}
use lib.Seq.{sets}
use Rattle.le.specs.Number.{bytes_of}
use Rattle.block.proofs.Blocks.{put-head}
use Rattle.block.proofs.put_head.Goals as goal

pub returns : goal.returns
returns c =
    let a = c.args in
    c.put_u16.ensures
    ∙ ap (λ (d : List ℕ). sets d (a.at + 4) (bytes_of 2 a.kind)) c.put_u32.ensures
    ∙ put-head a.d.now a.at a.len a.kind
