-- Shown here: behind a search that passed nothing is refused, so that a listing is refused exactly where its block, its size, its query or its search is; and its
-- places are those that the search lists. Nothing is assumed.
use Prim.Native.Nat.{ℕ, suc}
use mathlib.Core.Path.{◌≡◌, refl, ◌∙◌}
use mathlib.Core.Bool.{true}
use mathlib.Core.List.{List, [], ◌∷◌}
use borrow.Author.Tests.{lt-ltb}
use lib.Dec.{leb}
use lib.ListN.{length}
use Rattle.answer.specs.Table as table
use Rattle.answer.specs.Refusal.{because}
use Rattle.answer.specs.declared.Refusal.{Refusal}
use Rattle.answer.specs.Outcome.{ok, refused}
use Rattle.answer.specs.All.{all_of}
use Rattle.answer.proofs.Alls.{all_none, all_cons}
use Rattle.answer.proofs.Both.{both}
use Rattle.answer.proofs.Outcomes.{need-ok, on-ok}
use Rattle.answer.proofs.Orders.{on-refused, on_value}
use Rattle.query.specs.declared.ask.Ask.{Ask}
use Rattle.frame.specs.Frame.{Page, shapes_of, frame_of}
use Rattle.place.specs.Rows.{rows_in}
use Rattle.place.proofs.Places.{there, rows-there, rows-sound}
use Rattle.search.specs.Ascending.{Ascending, none, more}
use Rattle.search.specs.Search.{hits_of, search_of}
use Rattle.search.proofs.Ordered.{hits-met, hits-ascend}
use Rattle.list.specs.Listing.{Listing, most_hits, listing_with, listing_at, listing_for}

-- places that ascend below the number of shapes all have a shape
all_there : (ps : List Page) (n : ℕ) (l : List ℕ) → Ascending (shapes_of ps) n l → all_of (there ps) l ≡ true
all_there ps n [] none = all_none (there ps)
all_there ps n (p ∷ l) (more a b r) = all_cons (there ps) p l ∙ both (lt-ltb p (shapes_of ps) b) (all_there ps (suc p) l r)

module _ (a : Ask) (file : List ℕ) where
  -- what the search refuses is refused so
  pub search-refuses : (w : Refusal) → search_of a file most_hits ≡ refused w → listing_for a file ≡ refused w
  unfolding listing_for
  search-refuses w e = on-refused (search_of a file most_hits) (listing_at file) w e

  -- what it lists is listed
  pub search-lists : (l : List ℕ) → search_of a file most_hits ≡ ok l → (x : Listing) × (listing_for a file ≡ ok x) × (x.places ≡ l)
  unfolding listing_for listing_at search_of
  search-lists l e =
      let x = on-ok (hits_of a file) _ l e in
      let hits : hits_of a file ≡ ok l = x.1 ∙ (need-ok (leb (length x.0) most_hits) (because table.room) (ok x.0) l x.2).1 in
      let f = hits-met a file l hits in
      let rows = rows-there f.0.pages l (all_there f.0.pages 0 l (hits-ascend a file l hits)) in (
        listing_with l rows.0 (shapes_of f.0.pages),
        on_value (search_of a file most_hits) (listing_at file) l e
            ∙ on_value (rows_in file l) _ rows.0 (rows-sound file l f.0 f.1 ∙ rows.1)
            ∙ on_value (frame_of file) _ f.0 f.1,
        refl,
      )
