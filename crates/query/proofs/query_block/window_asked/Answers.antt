-- `query::query_block::window_asked` reads the four patterns and makes the box where they are of good form. Assumes nothing.
use mathlib.Core.Path.{sym, ap, ◌∙◌}
use Rattle.extent.specs.Forms.{form_of}
use Rattle.query.proofs.Blocks.{window-made, window-not}
use Rattle.query.proofs.query_block.window_asked.Goals as goal

pub returns-in_default : goal.returns-in_default
returns-in_default c = c.nothing_asked.ensures ∙ sym (window-not _ (sym (c.form_of.ensures ∙ ap form_of c.bounds_at.ensures) ∙ c.in_default.is))

pub returns : goal.returns
returns c = window-made _ _ (sym (c.form_of.ensures ∙ ap form_of c.bounds_at.ensures) ∙ c.in-Some.is)
