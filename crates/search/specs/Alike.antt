-- Pages that a search cannot tell apart: "whatever bytes stand behind its box, as long as the frame passes, the search's answer is the same. That is
-- what opens only means." Assumes nothing.
use Rattle.std.specs.Prelude.{◌≡◌, true, List, [], ◌∷◌, take}
use Rattle.extent.specs.Boxes.{patterns}
use Rattle.query.specs.declared.ask.Ask.{Ask}
use Rattle.query.specs.Ask.{opens}
use Rattle.frame.specs.Frame.{Page}

-- the same to the end of the box, the first 38 bytes, and the same body where the query meets that box
pub record AlikePage (a : Ask) (p q : Page) : Type 0 where
  pub start : take 38 p.body ≡ take 38 q.body
  pub body : opens a p.head.v (patterns p.head.stored) ≡ true → p.body ≡ q.body

-- page for page
pub data Alike (a : Ask) : List Page → List Page → Type 0 where
  none : Alike a [] []
  more : {p q : Page} {ps qs : List Page} → AlikePage a p q → Alike a ps qs → Alike a (p ∷ ps) (q ∷ qs)
