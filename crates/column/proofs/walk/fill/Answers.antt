-- `column::walk::fill` gives all the values and the place where they end: the first one, then three walks. Nothing is assumed.
use mathlib.Core.Path.{sym, ap, ◌∙◌}
use native.Mathlib.Omega.{arith}
use lib.ListN.{length-set}
use Rattle.entry.specs.Step.{marker}
use Rattle.column.proofs.Filling.{went_on, filled-all}
use Rattle.column.proofs.walk.fill.Goals as goal

pub fill_inside-inside-requires : goal.fill_inside-inside-requires
fill_inside-inside-requires c =
    let z = length-set c.args.out.now 0 c.window-first.result in record { fillable = record { wide = c.requires.1; marks = c.marker-m.ensures; given = omega (arith, c.requires.2); few = c.requires.3; room = omega (arith, c.requires.4, z) }; at_bound = omega arith }

pub fill_last-near-requires : goal.fill_last-near-requires
fill_last-near-requires c =
    let i = c.fill_inside-inside in
    let z = length-set c.args.out.now 0 c.window-first.result in record {
      fillable = record {
        wide = omega (arith, i.ensures.width, c.requires.1);
        marks = c.marker-m.ensures ∙ ap marker (sym i.ensures.width);
        given = i.ensures.most;
        few = c.requires.3;
        room = omega (arith, c.requires.4, i.ensures.same, z);
      };
      at_bound = omega (arith, i.ensures.bound, c.requires.3);
    }

pub fill_rest-end-requires : goal.fill_rest-end-requires
fill_rest-end-requires c =
    let went = went_on c.fill_inside-inside.ensures c.fill_last-near.ensures in
    let z = length-set c.args.out.now 0 c.window-first.result in record {
      fillable = record {
        wide = omega (arith, went.width, c.requires.1);
        marks = c.marker-m.ensures ∙ ap marker (sym went.width);
        given = went.most;
        few = c.requires.3;
        room = omega (arith, c.requires.4, went.same, z);
      };
      at_bound = omega (arith, went.bound, c.requires.3);
    }

pub shape_of-out : goal.shape_of-out
shape_of-out c =
    let went = went_on c.fill_inside-inside.ensures c.fill_last-near.ensures in
    c.fill_rest-end.ensures.0.same ∙ went.same ∙ length-set c.args.out.now 0 c.window-first.result

pub returns : goal.returns
returns c =
    let window = c.window-first in
    let k = c.fill_last-near in
    let r = c.fill_rest-end in
    let went = went_on c.fill_inside-inside.ensures k.ensures in
    let f = filled-all 64 c.args.s.now c.args.out.now k.new.out r.new.out c.args.n c.args.w window.result k.result r.result
    c.requires.0 window.ensures c.requires.2 c.requires.4 went r.ensures.0 r.ensures.1 in
    record { end = f.0; room = f.1; bound = omega (arith, went.bound, r.ensures.0.bound, r.ensures.1, c.requires.3) }
