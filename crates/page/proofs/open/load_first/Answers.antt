-- `page::open::load_first` cuts each room to what the page's head says, which is within the limits, and the rooms have room for these. Assumes nothing.
use Prim.Native.Nat.{◌≤◌}
use mathlib.Core.Path.{sym}
use native.Mathlib.Nat.{le_trans}
use native.Mathlib.Omega.{arith}
use Rattle.frame.proofs.Counts.{Limits}
use Rattle.frame.proofs.Heads.{head-is, head-limits}
use Rattle.page.proofs.Opening.{first_of, loaded-first}
use Rattle.page.proofs.open.load_first.Goals.{Start}
use Rattle.page.proofs.open.load_first.Goals as goal

-- what the head says of its counts
limits : (c : Start) → Limits c.args.h.g c.args.h.v c.args.h.p
limits c = let e = c.requires.by_index in head-limits _ _ _ (head-is e.0 _ c.args.h e.1)

-- as many part lengths as vertices, or fewer
parts : (c : Start) → c.args.h.p ≤ 2048
parts c = le_trans (limits c).parts (limits c).vertices

pub slice_bounds-load-end : goal.slice_bounds-load-end
slice_bounds-load-end c = omega (arith, (limits (goal.at.slice_bounds-load-end c).Start).few, c.requires.rooms.for_counts)

pub slice_bounds-load-end-2 : goal.slice_bounds-load-end-2
slice_bounds-load-end-2 c = first_of _ 256 c.args.counts.now c.requires.rooms.for_counts (limits (goal.at.slice_bounds-load-end-2 c).Start).few

pub slice_bounds-load-end-3 : goal.slice_bounds-load-end-3
slice_bounds-load-end-3 c = omega (arith, parts (goal.at.slice_bounds-load-end-3 c).Start, c.requires.rooms.for_lens)

pub slice_bounds-load-end-4 : goal.slice_bounds-load-end-4
slice_bounds-load-end-4 c = first_of _ 2048 c.args.lens.now c.requires.rooms.for_lens (parts (goal.at.slice_bounds-load-end-4 c).Start)

pub slice_bounds-load-end-5 : goal.slice_bounds-load-end-5
slice_bounds-load-end-5 c = omega (arith, (limits (goal.at.slice_bounds-load-end-5 c).Start).vertices, c.requires.rooms.for_xs)

pub slice_bounds-load-end-6 : goal.slice_bounds-load-end-6
slice_bounds-load-end-6 c = first_of _ 2048 c.args.xs.now c.requires.rooms.for_xs (limits (goal.at.slice_bounds-load-end-6 c).Start).vertices

pub slice_bounds-load-end-7 : goal.slice_bounds-load-end-7
slice_bounds-load-end-7 c = omega (arith, (limits (goal.at.slice_bounds-load-end-7 c).Start).vertices, c.requires.rooms.for_ys)

pub slice_bounds-load-end-8 : goal.slice_bounds-load-end-8
slice_bounds-load-end-8 c = first_of _ 2048 c.args.ys.now c.requires.rooms.for_ys (limits (goal.at.slice_bounds-load-end-8 c).Start).vertices

pub load-requires-clause-scratch_for : goal.load-requires-clause-scratch_for
load-requires-clause-scratch_for c =
    let m = limits (goal.at.load-requires-clause-scratch_for c).Start in
    let r = c.requires.rooms in record {
      for_counts = sym (first_of _ 256 c.args.counts.now r.for_counts m.few);
      for_lens = sym (first_of _ 2048 c.args.lens.now r.for_lens (parts (goal.at.load-requires-clause-scratch_for c).Start));
      for_xs = sym (first_of _ 2048 c.args.xs.now r.for_xs m.vertices);
      for_ys = sym (first_of _ 2048 c.args.ys.now r.for_ys m.vertices);
    }

pub returns : goal.returns
returns c = record {
  verdict = c.load.ensures.verdict;
  lists = λ e. loaded-first _ _ _ _ _ _ c.args.counts.now c.args.lens.now c.args.xs.now c.args.ys.now (c.load.ensures.lists e);
}
