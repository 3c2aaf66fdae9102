-- What a searcher asks: "A query is everything, a spot with its two coordinates, or a window with four. Its coordinates are finite and least ≤
-- greatest. A spot is a window of one point. Two boxes meet if they share a point, edges included. A shape with no vertex meets only the query for
-- everything; so does a page with no vertex." Assumes nothing.
use Rattle.std.specs.Prelude.{ℕ, zero, suc, Bool, true, false, ◌&&◌, List, [], ◌∷◌}
use Rattle.extent.specs.Rank.{finite}
use Rattle.extent.specs.declared.bounds.Bounds.{Bounds}
use Rattle.extent.specs.Boxes.{pattern_of, patterns, good_form, meets, spot_of, box_of}
use Rattle.query.specs.declared.ask.Ask.{Ask}
use Rattle.query.specs.declared.ask.Query.{Query}
use Rattle.query.specs.declared.ask.Query.TheVariants.{Everything, Spot, Window}

-- its coordinates are finite and least ≤ greatest, whatever floats they are: the pattern of a NaN or an infinity is not finite
unfoldable pub good_query : Query → Bool
good_query Everything = true
good_query (Spot x y) = finite (pattern_of x) && finite (pattern_of y)
good_query (Window b) = good_form (patterns b)

-- ---- what something takes up

-- nowhere, if it has no vertex, or a box
pub data Reach : Type 0 where
  nowhere : Reach
  within : Bounds → Reach

-- vertices take up their box
unfoldable pub reach_of : List ℕ → List ℕ → Reach
reach_of [] ys = nowhere
reach_of (x ∷ xs) ys = within (box_of (x ∷ xs) ys)

-- a page of v vertices takes up its stored box
unfoldable pub stored : ℕ → Bounds → Reach
stored zero p = nowhere
stored (suc v) p = within p

-- ---- what meets it

-- a window meets what shares a point with it, and nothing that is nowhere
unfoldable pub in_window : Bounds → Reach → Bool
in_window w nowhere = false
in_window w (within p) = meets w p

-- the query for everything meets whatever there is; a spot is a window of one point
unfoldable pub touches : Query → Reach → Bool
touches Everything r = true
touches (Spot x y) r = in_window (spot_of (pattern_of x) (pattern_of y)) r
touches (Window b) r = in_window (patterns b) r

-- what is asked meets a shape, by the x and the y of its vertices
unfoldable pub hit : Ask → List ℕ → List ℕ → Bool
hit a xs ys = touches a.query (reach_of xs ys)

-- what is asked opens a page, by the number of its vertices and its stored box
unfoldable pub opens : Ask → ℕ → Bounds → Bool
opens a v p = touches a.query (stored v p)
