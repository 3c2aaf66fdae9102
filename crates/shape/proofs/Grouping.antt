-- The polygons of a MultiPolygon in order make up its rings; each starts with a ring that opens it, and no other of its rings opens one.
-- Assumes nothing.
use mathlib.Core.Path.{◌≡◌, refl, sym, ap, ◌∙◌}
use mathlib.Core.Bool.{Bool, true, false, not}
use mathlib.Core.List.{List, [], ◌∷◌, ◌++◌}
use Rattle.answer.proofs.Both.{both}
use Rattle.answer.specs.All.{all_of}
use Rattle.answer.proofs.Alls.{all_none, all_cons}
use Rattle.shape.specs.Outline.{Part}
use Rattle.shape.specs.Rules.{first_clockwise}
use Rattle.shape.specs.Polygons.{opens_polygon, placed, grouped, polygons_of, rings_of, is_hole, well_made}

-- the rings before the first polygon, and those of the polygons, are all of them
whole : (ps : List Part) → (grouped ps).before ++ rings_of (grouped ps).polygons ≡ ps
unfolding grouped rings_of
whole [] = refl
whole (p ∷ ps) = one (opens_polygon p) (whole ps)
  where
    one : (t : Bool) → (grouped ps).before ++ rings_of (grouped ps).polygons ≡ ps → (placed t p (grouped ps)).before ++ rings_of (placed t p (grouped ps)).polygons ≡ p ∷ ps
    one true e = ap (λ (l : List Part). p ∷ l) e
    one false e = ap (λ (l : List Part). p ∷ l) e

-- where the first ring opens, none is before
none_before : (ps : List Part) → first_clockwise ps ≡ true → (grouped ps).before ≡ []
unfolding grouped first_clockwise opens_polygon
none_before [] e = refl
none_before (p ∷ ps) e = ap (λ (t : Bool). (placed t p (grouped ps)).before) e

-- so the polygons in order make up the rings
pub polygons-whole : (ps : List Part) → first_clockwise ps ≡ true → rings_of (polygons_of ps) ≡ ps
unfolding polygons_of
polygons-whole ps e = sym (ap (λ (l : List Part). l ++ rings_of (grouped ps).polygons) (none_before ps e)) ∙ whole ps

-- those before the first polygon open none
before-holes : (ps : List Part) → all_of is_hole (grouped ps).before ≡ true
unfolding grouped
before-holes [] = all_none is_hole
before-holes (p ∷ ps) = one (opens_polygon p) refl (before-holes ps)
  where
    one : (t : Bool) → opens_polygon p ≡ t → all_of is_hole (grouped ps).before ≡ true → all_of is_hole (placed t p (grouped ps)).before ≡ true
    one true e h = all_none is_hole
    one false e h = all_cons is_hole p (grouped ps).before ∙ both {a = is_hole p} (unfold is_hole in ap not e) h

-- each polygon is opened by its shell, and by none of its holes
pub polygons-well-made : (ps : List Part) → all_of well_made (polygons_of ps) ≡ true
unfolding polygons_of grouped
polygons-well-made [] = all_none well_made
polygons-well-made (p ∷ ps) = one (opens_polygon p) refl (polygons-well-made ps)
  where
    one : (t : Bool) → opens_polygon p ≡ t → all_of well_made (grouped ps).polygons ≡ true → all_of well_made (placed t p (grouped ps)).polygons ≡ true
    one true e h =
        all_cons well_made (record { shell = p; holes = (grouped ps).before }) (grouped ps).polygons
        ∙ both {a = well_made (record { shell = p; holes = (grouped ps).before })} (unfold well_made in both e (before-holes ps)) h
    one false e h = h
