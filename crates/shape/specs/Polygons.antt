-- The polygons of a MultiPolygon: each clockwise ring opens a new polygon, and the others are its holes. Assumes nothing.
use Rattle.std.specs.Prelude.{Bool, true, false, ◌&&◌, not, List, [], ◌∷◌, ◌++◌}
use Rattle.answer.specs.All.{all_of}
use Rattle.grid.specs.Turn.{clockwise}
use Rattle.shape.specs.Outline.{Part}
use Rattle.shape.specs.Rules.{ring_turn}

-- a polygon: the ring that opens it, and its holes
pub record Polygon : Type 0 where
  pub shell : Part
  pub holes : List Part

-- whether a ring opens a new polygon
unfoldable pub opens_polygon : Part → Bool
opens_polygon p = clockwise (ring_turn p)

-- ---- from the last ring to the first

-- the polygons of some rings, and the rings before the first of them that opens one
pub record Grouped : Type 0 where
  pub before : List Part
  pub polygons : List Polygon

-- a ring that opens takes the rings before the next one as its holes; another is a hole of what comes before
abbrev pub placed : Bool → Part → Grouped → Grouped
placed true p g = record { before = []; polygons = record { shell = p; holes = g.before } ∷ g.polygons }
placed false p g = record { before = p ∷ g.before; polygons = g.polygons }

-- the rings of a shape, grouped from the last one on
unfoldable pub grouped : List Part → Grouped
grouped [] = record { before = []; polygons = [] }
grouped (p ∷ ps) = placed (opens_polygon p) p (grouped ps)

-- the polygons of a MultiPolygon's rings
unfoldable pub polygons_of : List Part → List Polygon
polygons_of ps = (grouped ps).polygons

-- ---- and back

-- the rings of polygons, in order
unfoldable pub rings_of : List Polygon → List Part
rings_of [] = []
rings_of (q ∷ qs) = q.shell ∷ q.holes ++ rings_of qs

-- a ring that opens no polygon
unfoldable pub is_hole : Part → Bool
is_hole p = not (opens_polygon p)

-- a polygon that its shell opens, and none of its holes
unfoldable pub well_made : Polygon → Bool
well_made q = opens_polygon q.shell && all_of is_hole q.holes
