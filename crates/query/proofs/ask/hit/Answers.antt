-- `query::ask::hit` asks the shape's window test of a spot and of a window; the query for everything meets each shape. Assumes nothing.
use mathlib.Core.Path.{sym, ap, ◌∙◌, subst}
use Rattle.extent.specs.declared.bounds.Bounds.{Bounds}
use Rattle.extent.specs.Boxes.{FiniteBox}
use Rattle.query.specs.Ask.{reach_of, in_window, hit}
use Rattle.query.proofs.Touching.{touches-everything, touches-spot, touches-window, spot-finite, window-finite}
use Rattle.query.proofs.ask.hit.Goals as goal

pub shape_in-requires : goal.shape_in-requires
shape_in-requires c = (subst FiniteBox (sym c.point.ensures) (spot-finite _ _ _ c.in-Spot.is c.requires.0), c.requires.1, c.requires.2, c.requires.3)

pub shape_in-requires-in-Window : goal.shape_in-requires-in-Window
shape_in-requires-in-Window c = (window-finite _ _ c.in-Window.is c.requires.0, c.requires.1, c.requires.2, c.requires.3)

pub returns-in-Everything : goal.returns-in-Everything
unfolding hit
returns-in-Everything c = sym (touches-everything _ _ c.in-Everything.is)

pub returns-in-Spot : goal.returns-in-Spot
unfolding hit
returns-in-Spot c =
    let s = c.args in
    c.shape_in.ensures ∙ ap (λ (w : Bounds). in_window w (reach_of s.xs.now s.ys.now)) c.point.ensures ∙ sym (touches-spot _ _ _ _ c.in-Spot.is)

pub returns-in-Window : goal.returns-in-Window
unfolding hit
returns-in-Window c = c.shape_in-in-Window.ensures ∙ sym (touches-window _ _ _ c.in-Window.is)
