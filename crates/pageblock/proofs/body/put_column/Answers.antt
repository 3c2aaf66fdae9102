-- `pageblock::body::put_column` lends the part that is to hold the column, and what comes back is the column. Assumes nothing.
use Prim.Native.Nat.{ℕ, ◌+◌}
use mathlib.Core.Path.{ap, ◌∙◌}
use native.Mathlib.Omega.{arith}
use Rattle.width.proofs.Sizes.{width-least}
use Rattle.column.specs.Column.{encode}
use Rattle.column.proofs.Writing.{encode-is}
use Rattle.pageblock.proofs.Storing.{part-put, column-part}
use Rattle.pageblock.proofs.body.put_column.Goals as goal

pub put-requires : goal.put-requires
put-requires c =
    let a = c.args in
    let p = c.requires in
    (omega (arith, p.2.width, (width-least 64 a.vs.now).within), p.1, column-part a.d.now a.vs.now a.at a.f.bytes a.f.width p.0 p.2.size p.2.width)

pub returns : goal.returns
returns c =
    let a = c.args in
    let p = c.requires in
    part-put a.d.now _ (encode 64 a.vs.now) a.at (a.at + a.f.bytes) (ap (λ (n : ℕ). a.at + n) p.2.size) p.0 (c.put.ensures ∙ encode-is 64 a.f.width a.vs.now p.2.width)
