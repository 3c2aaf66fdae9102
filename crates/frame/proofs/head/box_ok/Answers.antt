-- `box_ok` takes the four patterns where they stand, and tests them by whether there is a vertex. Assumes nothing.
use mathlib.Core.Path.{sym, ap, ◌∙◌}
use Rattle.extent.specs.Boxes.{good_form}
use Rattle.frame.specs.Head.{all_zero}
use Rattle.frame.proofs.Forms.{box-none, box-some}
use Rattle.frame.proofs.head.box_ok.Goals as goal

pub returns-then-v-eq0 : goal.returns-then-v-eq0
returns-then-v-eq0 c = c.all_zero.ensures ∙ ap all_zero c.bounds_at-p.ensures ∙ sym (box-none _ _ c.if-v-eq0.true)

pub returns : goal.returns
returns c = c.good_patterns.ensures ∙ ap good_form c.bounds_at-p.ensures ∙ sym (box-some _ _ c.if-v-eq0.false)
