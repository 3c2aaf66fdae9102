-- `types::parts::parts_agree` holds each shape's parts against the table: the shapes to come, with the parts to come, decide. Assumes nothing.
use Rattle.std.proofs.Common.{◌≡◌, ℕ, Bool, ◌<◌, List, length, get_or, drop, arith, rules, sym, ap, ap₂, ◌∙◌, length-append}
use Prim.Native.Nat.{min}
use Rattle.std.proofs.lemmas.Slice.Zip.{zip_turn, zip_end}
use Rattle.types.specs.Parts.{shape_agrees}
use Rattle.types.proofs.Agreeing.{part_to_end, agree-uneven, agreeing-more, agreeing-stop, agreeing-done}
use Rattle.types.proofs.parts.parts_agree.Goals as goal
use Rattle.types.proofs.parts.parts_agree.Goals.{After-shape_agrees}

pub returns-then-types-counts : goal.returns-then-types-counts
returns-then-types-counts c = agree-uneven _ _ _ c.if-types-counts.true

-- an iteration holds the shape and the part count of its place, and tests that shape with the parts that are left
record Turn (types counts lens : List ℕ) (i k t c : ℕ) (test : Bool) : Type 0 where
  within : i < length types
  count : c ≡ get_or counts i 0
  agrees : test ≡ shape_agrees (get_or types i 0) (get_or counts i 0) (drop k lens)

turn : (c : After-shape_agrees) → Turn c.args.types.now c.args.counts.now c.args.lens.now (length c.loop-t.yielded) c.loop-t.k c.in-Some.t.now c.in-Some.c.now c.shape_agrees.result
turn c =
    let z = zip_turn c.args.types.now c.args.counts.now c.loop-t.yielded _ c.loop-t.t-iterator c.next.new.self c.next.result (search rules) (search rules) c.loop-t.yielded_by _ c.in-Some.is c.next.ensures.steps in
    record {
      within = z.0;
      count = z.3 0;
      agrees = c.shape_agrees.ensures ∙ ap (shape_agrees c.in-Some.t.now c.in-Some.c.now) (part_to_end c.loop-t.k c.args.lens.now)
          ∙ ap₂ (λ (t n : ℕ). shape_agrees t n (drop c.loop-t.k c.args.lens.now)) (z.2 0) (z.3 0);
    }

pub returns-then-not-shape_agrees : goal.returns-then-not-shape_agrees
returns-then-not-shape_agrees c =
    let t = turn (goal.at.returns-then-not-shape_agrees c).After-shape_agrees in
    agreeing-stop c.args.types.now c.args.counts.now c.args.lens.now (length c.loop-t.yielded) c.loop-t.k c.if-types-counts.false c.loop-t.invariant t.within (sym t.agrees ∙ c.if-not-shape_agrees.true)

pub loop-t-preserved : goal.loop-t-preserved
loop-t-preserved c =
    let t = turn (goal.at.loop-t-preserved c).After-shape_agrees in
    let more = agreeing-more c.args.types.now c.args.counts.now c.args.lens.now (length c.loop-t.yielded) c.loop-t.k c.if-types-counts.false c.loop-t.invariant t.within (sym t.agrees ∙ c.if-not-shape_agrees.false) in
    rw (length-append, c.from-k.ensures, t.count) more

pub returns : goal.returns
returns c =
    let n = zip_end c.args.types.now c.args.counts.now c.loop-t.yielded _ c.loop-t.t-iterator c.next.new.self c.next.result (search rules) (search rules) c.loop-t.yielded_by c.in-None.is c.next.ensures.steps in
    agreeing-done c.args.types.now c.args.counts.now c.args.lens.now (length c.loop-t.yielded) c.loop-t.k c.if-types-counts.false c.loop-t.invariant (let m : length c.loop-t.yielded ≡ min (length c.args.types.now) (length c.args.counts.now) = n in omega arith)
