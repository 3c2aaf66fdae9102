-- Nothing is lost: in a file that the full check accepts, the search lists exactly the places of all shapes that the query hits, and the count is
-- their number. Assumes nothing.
use mathlib.Core.Path.{◌≡◌, refl, sym, ap, ◌∙◌}
use mathlib.Core.Bool.{Bool, true, false, cond}
use mathlib.Core.List.{List, [], ◌∷◌, ◌++◌, map, map-append}
use Prim.Native.Nat.{ℕ, suc, ◌+◌, ◌≤◌}
use native.Mathlib.Omega.{arith}
use lib.Dec.{leb}
use lib.ListN.{length, length-map}
use Rattle.answer.specs.Table as table
use Rattle.answer.specs.Refusal.{because, on_page}
use Rattle.answer.specs.Outcome.{ok, in_page}
use Rattle.answer.specs.Rule.{rule}
use Rattle.answer.proofs.Outcomes.{ok-inj, need-ok, on-ok, marked-ok}
use Rattle.answer.proofs.Rules.{rule-holds}
use Rattle.extent.specs.Boxes.{patterns}
use Rattle.query.specs.declared.ask.Ask.{Ask}
use Rattle.query.specs.Ask.{good_query, hit, opens}
use Rattle.shape.specs.Outline.{Outline, Shape}
use Rattle.frame.specs.Frame.{Page, Frame, frame_of}
use Rattle.page.specs.Contents.{contents_of}
use Rattle.answer.proofs.Orders.{on_value}
use Rattle.page.proofs.Contained.{contents-long}
use Rattle.file.specs.File.{pages_of, shapes_in}
use Rattle.search.specs.Search.{places_of, hits_from, page_hits, met_of, hits_of, search_of, count_of}
use Rattle.search.proofs.Opened.{page-unopened, page-open}
use Rattle.search.proofs.Sequence.{met-none, met-order, hits-order, met-page}
use Rattle.search.proofs.Unopened.{closed_none}
use Rattle.search.proofs.Services.{search-hits}

-- ---- shapes of one run after another

places-append : (a : Ask) (n : ℕ) (os ps : List Outline) → places_of a n (os ++ ps) ≡ places_of a n os ++ places_of a (n + length os) ps
unfolding places_of
places-append a n [] ps = let z : n ≡ n + 0 = omega arith in ap (λ (k : ℕ). places_of a k ps) z
places-append a n (o ∷ os) ps =
    let z : suc n + length os ≡ n + suc (length os) = omega arith in
    let r : places_of a (suc n) (os ++ ps) ≡ places_of a (suc n) os ++ places_of a (n + suc (length os)) ps = places-append a (suc n) os ps ∙ ap (λ (k : ℕ). places_of a (suc n) os ++ places_of a k ps) z in
    ap (λ (l : List ℕ). cond (hit a o.xs o.ys) (n ∷ l) l) r ∙ go (hit a o.xs o.ys) (places_of a (suc n) os) (places_of a (n + suc (length os)) ps)
  where
    go : (b : Bool) (l m : List ℕ) → cond b (n ∷ (l ++ m)) (l ++ m) ≡ cond b (n ∷ l) l ++ m
    go true l m = refl
    go false l m = refl

pub hits-append : (a : Ask) (n : ℕ) (ss ts : List Shape) → hits_from a n (ss ++ ts) ≡ hits_from a n ss ++ hits_from a (n + length ss) ts
unfolding hits_from
hits-append a n ss ts =
    let os = map (λ (s : Shape). s.outline) ss in
    let ps = map (λ (s : Shape). s.outline) ts in
    ap (places_of a n) (map-append (λ (s : Shape). s.outline) ss ts) ∙ places-append a n os ps ∙ ap (λ (k : ℕ). places_of a n os ++ places_of a (n + k) ps) (length-map ss (λ (s : Shape). s.outline))

none_of : (a : Ask) (n : ℕ) → [] ≡ hits_from a n []
unfolding hits_from places_of
none_of a n = refl

-- ---- a page

-- its hits are those of its shapes, opened or not
pub page-complete : (a : Ask) (k n : ℕ) (p : Page) (ss : List Shape) → in_page k (contents_of p.head p.body) ≡ ok ss → page_hits a k n p ≡ ok (hits_from a n ss)
page-complete a k n p ss e = go (opens a p.head.v (patterns p.head.stored)) refl
  where
    go : (t : Bool) → opens a p.head.v (patterns p.head.stored) ≡ t → page_hits a k n p ≡ ok (hits_from a n ss)
    go true q = page-open a k n p q ∙ on_value (in_page k (contents_of p.head p.body)) _ ss e
    go false q = page-unopened a k n p q ∙ ap ok (sym (closed_none a n p.head p.body ss (marked-ok (on_page k) (contents_of p.head p.body) ss e) q))

-- ---- the pages

pub met-complete : (ps : List Page) (a : Ask) (k n : ℕ) (ss : List Shape) → pages_of k ps ≡ ok ss → met_of a k n ps ≡ ok (hits_from a n ss)
unfolding pages_of
met-complete [] a k n ss e = met-none a k n ∙ ap ok (none_of a n ∙ ap (hits_from a n) (ok-inj e))
met-complete (p ∷ ps) a k n ss e =
    let x = on-ok (in_page k (contents_of p.head p.body)) _ ss e in
    let y = on-ok (pages_of (suc k) ps) _ ss x.2 in
    let here : List Shape = x.0 in
    let rest : List Shape = y.0 in
    let g : length here ≡ p.head.g = contents-long p.head p.body here (marked-ok (on_page k) (contents_of p.head p.body) here x.1) in
    met-page a k n p ps (hits_from a n here) (page-complete a k n p here x.1)
    ∙ on_value (met_of a (suc k) (n + p.head.g) ps) _ (hits_from a (n + p.head.g) rest) (met-complete ps a (suc k) (n + p.head.g) rest y.1)
    ∙ ap ok (ap (λ (m : ℕ). hits_from a n here ++ hits_from a (n + m) rest) (sym g) ∙ sym (hits-append a n here rest) ∙ ap (hits_from a n) (ok-inj y.2))

-- ---- the services

module _ (a : Ask) (s : List ℕ) (ss : List Shape) (e : shapes_in s ≡ ok ss) (q : good_query a.query ≡ true) where
  pub hits-complete : hits_of a s ≡ ok (hits_from a 0 ss)
  unfolding shapes_in
  hits-complete =
      let x = on-ok (frame_of s) _ ss e in
      let f : Frame = x.0 in
      hits-order a s
      ∙ on_value (rule (good_query a.query) table.query) _ tt (rule-holds (good_query a.query) table.query q)
      ∙ met-order a s
      ∙ on_value (frame_of s) _ f x.1
      ∙ met-complete f.pages a 0 0 ss x.2

  pub search-complete : (room : ℕ) → length (hits_from a 0 ss) ≤ room → search_of a s room ≡ ok (hits_from a 0 ss)
  search-complete room h = search-hits a s room (hits_from a 0 ss) hits-complete h

  pub count-complete : count_of a s ≡ ok (length (hits_from a 0 ss))
  unfolding count_of
  count-complete = on_value (hits_of a s) _ (hits_from a 0 ss) hits-complete

-- the count is the length of what the search lists, with any room that suffices
pub count-listed : (a : Ask) (s : List ℕ) (room : ℕ) (l : List ℕ) → search_of a s room ≡ ok l → count_of a s ≡ ok (length l)
unfolding search_of count_of
count-listed a s room l e =
    let x = on-ok (hits_of a s) _ l e in
    let y = need-ok (leb (length x.0) room) (because table.room) (ok x.0) l x.2 in
    on_value (hits_of a s) _ x.0 x.1 ∙ ap (λ (k : List ℕ). ok (length k)) (ok-inj y.1)
