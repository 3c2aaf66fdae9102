-- `text::put_number` puts a number: the fewest digits that hold it are its decimal, of at most 20. Nothing is assumed.
use Prim.Native.Nat.{ℕ, ◌+◌}
use mathlib.Core.Path.{ap, ◌∙◌}
use native.Mathlib.Omega.{arith}
use lib.ListN.{length}
use lib.Seq.{sets}
use Rattle.text.specs.Pieces.{number, piece_bytes, most}
use Rattle.text.proofs.Decimals.{fewest-20, fewest-decimal}
use Rattle.text.proofs.Pieces.{put_one, ends}
use Rattle.text.proofs.put_number.Goals as goal

pub put_bytes-requires : goal.put_bytes-requires
put_bytes-requires c =
    let d = c.decimal-k in
    omega (arith, fewest-20 _ _ d.ensures.len c.ranges.n.fits, d.ensures.in_bounds.1, c.requires)

pub overflow_add-result : goal.overflow_add-result
overflow_add-result c =
    let d = c.decimal-k in
    omega (arith, fewest-20 _ _ d.ensures.len c.ranges.n.fits, c.requires, c.well_formed)

pub returns : goal.returns
unfolding piece_bytes most
returns c =
    let a = c.args in
    let d = c.decimal-k in
    let e = fewest-decimal d.result a.n _ c.ranges.n.fits d.ensures.len d.ensures.digits in
    let next = ap (λ (k : ℕ). a.at + k) (d.ensures.in_bounds.1 ∙ ap length e) in
    let text = put_one (number a.n) a.out.now _ a.at _ next (c.put_bytes.ensures ∙ ap (sets a.out.now a.at) e) in
    record { puts = text; upper_bound = ends text }
