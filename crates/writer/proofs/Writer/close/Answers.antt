-- `Writer::close` gives the outcome of closing: 18, 3, 2, or the end block and the state closed. Assumes nothing.
use Prim.Native.Nat.{◌+◌}
use mathlib.Core.Bool.{true}
use native.Mathlib.Omega.{arith}
use Rattle.frame.specs.Whole.{end_block}
use Rattle.writer.specs.State.{state_with}
use Rattle.writer.proofs.Stepping.{steps-refused, steps-ok}
use Rattle.writer.proofs.Ways.{added, close-closed, close-many, close-shapes, close-room, close-ok}
use Rattle.writer.proofs.Writer.close.Goals as goal

pub returns-then-self : goal.returns-then-self
returns-then-self c = rw c.refused.ensures (steps-refused _ (close-closed _ _ c.if-self.true))

pub returns-then-pages-gt-MOST_PAGES : goal.returns-then-pages-gt-MOST_PAGES
returns-then-pages-gt-MOST_PAGES c =
    rw c.refused-then-pages-gt-MOST_PAGES.ensures (steps-refused _ (close-many _ _ c.if-self.false c.if-pages-gt-MOST_PAGES.true))

pub returns-then-shapes-gt-MOST_SHAPES : goal.returns-then-shapes-gt-MOST_SHAPES
returns-then-shapes-gt-MOST_SHAPES c =
    rw c.refused-then-shapes-gt-MOST_SHAPES.ensures
    (steps-refused _ (close-shapes _ _ c.if-self.false c.if-pages-gt-MOST_PAGES.false c.if-shapes-gt-MOST_SHAPES.true))

pub returns-then-d-position : goal.returns-then-d-position
returns-then-d-position c =
    rw c.refused-then-d-position.ensures
    (steps-refused _ (close-room _ _ c.if-self.false c.if-pages-gt-MOST_PAGES.false c.if-shapes-gt-MOST_SHAPES.false (omega (arith, c.if-d-position.true))))

pub returns-then-d-position-lt-END_BLOCK : goal.returns-then-d-position-lt-END_BLOCK
returns-then-d-position-lt-END_BLOCK c =
    rw c.refused-then-d-position-lt-END_BLOCK.ensures
    (steps-refused _
    (close-room _ _ c.if-self.false c.if-pages-gt-MOST_PAGES.false c.if-shapes-gt-MOST_SHAPES.false
    (omega (arith, c.if-d-position-lt-END_BLOCK.true, c.if-d-position.false))))

pub returns : goal.returns
returns c =
    let w = c.args.self in
    steps-ok (added (state_with (w.position + 14) w.pages w.shapes true) w.position (end_block w.pages w.shapes)) _
    (close-ok w _ c.if-self.false c.if-pages-gt-MOST_PAGES.false c.if-shapes-gt-MOST_SHAPES.false
    (omega (arith, c.if-d-position-lt-END_BLOCK.false, c.if-d-position.false))) c.put_end.ensures
