-- What the three rules that go shape by shape ask before they test a shape, and of which types they say nothing: for the one inner walk over the
-- shapes; no service speaks of it. Assumes nothing.
use Rattle.std.specs.Prelude.{ℕ, Bool, true, ◌&&◌, ◌||◌, not, leb, eqb, length, ◌≡◌}
use Rattle.std.proofs.Common.{ap}
use Rattle.answer.specs.Limits.{vertex_limit}
use Rattle.answer.specs.All.{all_of}
use Rattle.types.specs.Types.{multi_polygon, type_row}
use Rattle.shape.specs.Outline.{Outline}
use Rattle.grid.specs.Grid.{all_on_grid}
use Rattle.shape.specs.Rules.{own_parts, closed_ring, rings_closed, on_grid_shape, rings_turned, turns_hold}

-- nothing must have passed
unfoldable pub always : Outline → Bool
always o = true

-- before its turns, that it is on grid and not over 2,048 vertices
unfoldable pub turnable : Outline → Bool
turnable o = on_grid_shape o && leb (length o.xs) vertex_limit

-- the types with no rings
unfoldable pub no_rings : ℕ → Bool
no_rings t = not (type_row t).rings

-- all but the MultiPolygon
unfoldable pub no_multi_polygon : ℕ → Bool
no_multi_polygon t = not (eqb t multi_polygon)

-- a shape of such a type passes
module _ (o : Outline) where
  pub rings-spared : no_rings o.kind ≡ true → rings_closed o ≡ true
  unfolding no_rings rings_closed
  rings-spared e = ap (λ (b : Bool). b || all_of closed_ring (own_parts o)) e

  pub grid-spared : no_multi_polygon o.kind ≡ true → on_grid_shape o ≡ true
  unfolding no_multi_polygon on_grid_shape
  grid-spared e = ap (λ (b : Bool). b || (all_on_grid o.xs && all_on_grid o.ys)) e

  pub turns-spared : no_multi_polygon o.kind ≡ true → turns_hold o ≡ true
  unfolding no_multi_polygon turns_hold
  turns-spared e = ap (λ (b : Bool). b || rings_turned (own_parts o)) e
