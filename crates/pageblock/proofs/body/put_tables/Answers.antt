-- `pageblock::body::put_tables` puts the four tables where the layout says, which is one behind the other. Assumes nothing.
use native.Mathlib.Omega.{arith}
use Rattle.std.proofs.lemmas.List.{map-id}
use Rattle.pageblock.specs.Body.{handed_of}
use Rattle.pageblock.proofs.Storing.{tables-put}
use Rattle.pageblock.proofs.body.put_tables.Goals as goal

pub overflow_add-body-4 : goal.overflow_add-body-4
overflow_add-body-4 c =
    let l = c.requires.0 in
    omega (arith, c.well_formed.0.0, c.requires.1, l.types_at, l.counts_at, l.lens_at, l.sizes_at)

pub put_run-requires-3 : goal.put_run-requires-3
put_run-requires-3 c =
    let l = c.requires.0 in
    omega (arith, c.requires.1, l.types_at, l.counts_at, l.lens_at, l.sizes_at)

pub returns : goal.returns
returns c =
    let l = c.requires.0 in
    tables-put _ (handed_of c.args.lists) _ _ _ _ _ _ _ _ _
    (rw l.one (omega (arith, l.types_at))) (omega (arith, l.counts_at)) (omega (arith, l.lens_at)) (rw l.one (rw map-id at c.put_run.ensures)) c.put_bytes.ensures
    (rw map-id at c.put_run-2.ensures) (rw map-id at c.put_run-3.ensures)
