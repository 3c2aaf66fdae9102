-- `query::ask::sound` tests each kind of query as the definition does. Assumes nothing.
use mathlib.Core.Path.{sym, ◌∙◌}
use Rattle.query.proofs.Touching.{sound-everything, sound-spot, sound-window}
use Rattle.query.proofs.ask.good_query.Goals as goal

pub returns-in-Everything : goal.returns-in-Everything
returns-in-Everything c = sym (sound-everything _ c.in-Everything.is)

pub returns-in-Spot : goal.returns-in-Spot
returns-in-Spot c = c.spot_finite.ensures ∙ sym (sound-spot _ _ _ c.in-Spot.is)

pub returns-in-Window : goal.returns-in-Window
returns-in-Window c = c.good_form.ensures ∙ sym (sound-window _ _ c.in-Window.is)
