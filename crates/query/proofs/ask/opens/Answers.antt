-- `query::ask::opens` asks the page's window test of a spot and of a window; the query for everything opens each page. Assumes nothing.
use mathlib.Core.Path.{sym, ap, ◌∙◌, subst}
use Rattle.extent.specs.declared.bounds.Bounds.{Bounds}
use Rattle.extent.specs.Boxes.{FiniteBox, patterns}
use Rattle.query.specs.Ask.{stored, in_window, opens}
use Rattle.query.proofs.Touching.{touches-everything, touches-spot, touches-window, spot-finite, window-finite}
use Rattle.query.proofs.ask.opens.Goals as goal

pub page_in-requires : goal.page_in-requires
page_in-requires c = (subst FiniteBox (sym c.point.ensures) (spot-finite _ _ _ c.in-Spot.is c.requires.0), c.requires.1)

pub page_in-requires-in-Window : goal.page_in-requires-in-Window
page_in-requires-in-Window c = (window-finite _ _ c.in-Window.is c.requires.0, c.requires.1)

pub returns-in-Everything : goal.returns-in-Everything
unfolding opens
returns-in-Everything c = sym (touches-everything _ _ c.in-Everything.is)

pub returns-in-Spot : goal.returns-in-Spot
unfolding opens
returns-in-Spot c =
    let s = c.args in
    c.page_in.ensures ∙ ap (λ (w : Bounds). in_window w (stored s.v (patterns s.b))) c.point.ensures ∙ sym (touches-spot _ _ _ _ c.in-Spot.is)

pub returns-in-Window : goal.returns-in-Window
unfolding opens
returns-in-Window c = c.page_in-in-Window.ensures ∙ sym (touches-window _ _ _ c.in-Window.is)
