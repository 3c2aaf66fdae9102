-- `le::run::put_run` puts a run of numbers. The invariant: the first i are put, and nothing else has changed. Assumes nothing.
use Rattle.std.proofs.Common.{◌≡◌, get_or, map, sym, ap, ◌∙◌}
use Rattle.std.proofs.lemmas.List.{length-map, get_or-map}
use lib.Seq.{sets}
use Rattle.le.proofs.Runs.{run_none, run_more}
use Rattle.le.proofs.run.put_run.Goals as goal

pub loop-i-init : goal.loop-i-init
loop-i-init g c = ap (sets c.args.d.now c.args.at) (sym (run_none g.T.Put.BYTES (map g.T.Put.number c.args.xs.now)))

pub loop-i-preserved : goal.loop-i-preserved
loop-i-preserved g c =
    let ns = map g.T.Put.number c.args.xs.now in
    let x = c.index-xs-i.result in
    let e : g.T.Put.number x ≡ get_or ns c.loop-i.i 0 =
    ap g.T.Put.number c.index-xs-i.is ∙ sym (get_or-map g.T.Put.number c.args.xs.now c.loop-i.i x 0 c.loop-i-test.true) in
    run_more g.T.Put.BYTES ns c.args.d.now c.loop-i.d _ c.args.at c.loop-i.i (rw length-map c.loop-i-test.true) c.loop-i.invariant (cc)
