-- `column::read::copy` copies the part of src that is its first n. Assumes nothing.
use Prim.Native.Nat.{ℕ}
use mathlib.Core.Path.{sym, ap, ◌∙◌}
use mathlib.Core.List.{◌++◌}
use native.Mathlib.Omega.{arith}
use lib.ListN.{take, drop}
use lib.Seq.{length-take-le}
use Rattle.column.proofs.read.copy.Goals as goal

pub slice_bounds-copy_to_start-end : goal.slice_bounds-copy_to_start-end
slice_bounds-copy_to_start-end c = sym (length-take-le c.args.n c.args.src.now c.requires.0)

pub copy_to_start-requires : goal.copy_to_start-requires
copy_to_start-requires c = omega (arith, length-take-le c.args.n c.args.src.now c.requires.0, c.requires.1)

pub returns : goal.returns
returns c =
    let a = c.args in
    c.copy_to_start.ensures ∙ ap (λ (i : ℕ). take a.n a.src.now ++ drop i a.dst.now) (length-take-le a.n a.src.now c.requires.0)
