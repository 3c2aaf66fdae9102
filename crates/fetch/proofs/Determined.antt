-- What is determined: two outcomes that meet the contract of one call are the same, the answer and every room. Assumes nothing.
use Prim.Native.Nat.{ℕ}
use mathlib.Core.Path.{◌≡◌, sym, ◌∙◌}
use mathlib.Core.List.{List}
use Rattle.answer.specs.Outcome.{Out, Fills}
use Rattle.answer.proofs.Determined.{determined}
use Rattle.shape.specs.Outline.{Shape}
use Rattle.place.specs.declared.row.Row.{Row}
use Rattle.fetch.specs.declared.fetch.Found.{Found}
use Rattle.fetch.specs.Fetch.{Fetches}
use Rattle.place.specs.Rows.{registers_from, types_from}

-- of a fetch
pub fetch-determined : {o : Out Shape} {dl dx dy : List ℕ} {r r' : Out Found} {el ex ey el' ex' ey' : List ℕ} → Fetches o dl dx dy r el ex ey → Fetches o dl dx dy r' el' ex' ey'
    → (r ≡ r') × (el ≡ el') × (ex ≡ ex') × (ey ≡ ey')
fetch-determined p q = (p.answer ∙ sym q.answer, p.lens_room ∙ sym q.lens_room, p.xs_room ∙ sym q.xs_room, p.ys_room ∙ sym q.ys_room)

-- of the rows for a list of places
pub rows-determined : (o : Out (List Row)) {dr dt : List ℕ} {r r' : Out ℕ} {er et er' et' : List ℕ}
    → Fills (registers_from o) dr r er → Fills (types_from o) dt r et → Fills (registers_from o) dr r' er' → Fills (types_from o) dt r' et'
    → (r ≡ r') × (er ≡ er') × (et ≡ et')
rows-determined o p q p' q' = let a = determined p p' in (a.0, a.1, (determined q q').1)
