-- `column::write::write` gives the outcome of writing: 3, 2, or the column put into the start of the room. Assumes nothing.
use mathlib.Core.Path.{sym, ap, ◌∙◌}
use mathlib.Core.List.{List, ◌++◌}
use Prim.Native.Nat.{ℕ}
use native.Mathlib.Omega.{arith}
use lib.ListN.{length, drop}
use lib.Seq.{length-take-le}
use Rattle.answer.proofs.Outcomes.{fills-refused, fills-ok}
use Rattle.width.proofs.Sizes.{width-least}
use Rattle.column.specs.Column.{encode}
use Rattle.column.proofs.Writing.{encode-is, write-many, write-room, write_bytes}
use Rattle.column.proofs.write.write.Goals as goal

pub returns-then-vs-gt-MOST_VERTICES : goal.returns-then-vs-gt-MOST_VERTICES
returns-then-vs-gt-MOST_VERTICES c =
    let a = c.args in
    rw c.refused.ensures (fills-refused _ (write-many 64 a.vs.now _ c.if-vs-gt-MOST_VERTICES.true))

pub returns-then-out-size : goal.returns-then-out-size
returns-then-out-size c =
    let a = c.args in
    rw c.refused-then-out-size.ensures (fills-refused _ (write-room 64 a.vs.now (length a.out.now) c.if-vs-gt-MOST_VERTICES.false (omega (arith, c.fit-f.ensures.1, c.if-out-size.true))))

pub slice_bounds-put-end-2 : goal.slice_bounds-put-end-2
slice_bounds-put-end-2 c = sym (length-take-le c.fit-f.result.bytes c.args.out.now c.if-out-size.false)

pub put-requires : goal.put-requires
put-requires c =
    let a = c.args in
    let f = c.fit-f in (
      omega (arith, f.ensures.0, (width-least 64 a.vs.now).within),
      c.if-vs-gt-MOST_VERTICES.false,
      length-take-le f.result.bytes a.out.now c.if-out-size.false ∙ f.ensures.1 ∙ sym (ap length (encode-is 64 f.result.width a.vs.now f.ensures.0)),
    )

pub returns : goal.returns
returns c =
    let if1 = c.if-vs-gt-MOST_VERTICES in
    let if2 = c.if-out-size in
    let a = c.args in
    let f = c.fit-f in
    fills-ok (encode 64 a.vs.now) f.result.bytes _ (write_bytes 64 a.vs.now (length a.out.now) if1.false (omega (arith, f.ensures.1, if2.false))) f.ensures.1
    (ap (λ (x : List ℕ). x ++ drop f.result.bytes a.out.now) (c.put.ensures ∙ encode-is 64 f.result.width a.vs.now f.ensures.0))
