-- Demand 3: "The search lists exactly the shapes whose own box meets the query, each once, in file order, for every file the full check accepts, opening only
-- pages whose stored box meets it. Edges count. 'Everything' also lists empty shapes." A shape's own box is that of its vertices: nothing here speaks of
-- pages, but for the last law. Nothing is assumed.
use Prim.Native.Nat.{ℕ, suc, ◌+◌, ◌≤◌}
use mathlib.Core.Path.{◌≡◌, sym, ap, ap₂, ◌∙◌}
use mathlib.Core.Bool.{true, false}
use mathlib.Core.List.{List, [], ◌∷◌}
use native.Mathlib.Nat.{zero-add}
use native.Mathlib.Omega.{arith}
use lib.ListN.{length, length-append, drop}
use Rattle.answer.specs.Refusal.{on_page}
use Rattle.answer.specs.Outcome.{ok, in_page}
use Rattle.answer.proofs.Outcomes.{ok-inj, on-ok, marked-ok}
use Rattle.answer.proofs.Both.{not-true}
use Rattle.query.specs.declared.ask.Ask.{Ask}
use Rattle.query.specs.declared.ask.Query.TheVariants.{Everything}
use Rattle.query.specs.Ask.{good_query, hit}
use Rattle.query.proofs.Asking.{hit-everything, hit-none}
use Rattle.shape.specs.Outline.{Shape}
use Rattle.frame.specs.declared.walk.Totals.{Totals}
use Rattle.frame.specs.Frame as frame
use Rattle.frame.specs.Frame.{Page, Frame, frame_of}
use Rattle.page.specs.Contents.{contents_of}
use Rattle.page.proofs.Contained.{contents-long}
use Rattle.file.specs.File.{pages_of, shapes_in}
use Rattle.file.specs.Check.{check_of}
use Rattle.file.proofs.Checks.{shapes_are, check-accepts}
use Rattle.search.specs.Search.{hits_from, search_of, count_of}
use Rattle.search.specs.Ascending.{Ascending}
use Rattle.search.specs.Listed.{listed}
use Rattle.search.specs.Alike.{Alike}
use Rattle.search.proofs.Complete.{search-complete, count-complete}
use Rattle.search.proofs.Listed as listing
use Rattle.search.proofs.Apart as apart

-- pages have as many shapes as their heads say
pages-many : (ps : List Page) (k : ℕ) (ss : List Shape) → pages_of k ps ≡ ok ss → length ss ≡ frame.shapes_of ps
unfolding pages_of frame.shapes_of
pages-many [] k ss e = ap length (sym (ok-inj e))
pages-many (p ∷ ps) k ss e =
    let x = on-ok (in_page k (contents_of p.head p.body)) _ ss e in
    let y = on-ok (pages_of (suc k) ps) _ ss x.2 in
    let here = contents-long p.head p.body x.0 (marked-ok (on_page k) (contents_of p.head p.body) x.0 x.1) in
    let rest = pages-many ps (suc k) y.0 y.1 in
    ap length (sym (ok-inj y.2)) ∙ length-append x.0 y.0 ∙ ap₂ (λ (m n : ℕ). m + n) here rest

-- a file that the full check accepts has shapes, as many as the check says
pub accepted-shapes : (s : List ℕ) (t : Totals) → check_of s ≡ ok t → (ss : List Shape) × (shapes_in s ≡ ok ss) × (length ss ≡ t.shapes)
accepted-shapes s t e =
    let a = check-accepts s t e in
    (a.1, shapes_are s a.0 a.2 ∙ a.3, pages-many a.0.pages 0 a.1 a.3 ∙ ap (λ (x : Totals). x.shapes) a.4)

module _ (s : List ℕ) (ss : List Shape) (e : shapes_in s ≡ ok ss) (a : Ask) (q : good_query a.query ≡ true) where
  -- exactly the shapes whose own box meets the query, as a filter over the file's shapes
  pub lists-exactly : (room : ℕ) → length (hits_from a 0 ss) ≤ room → search_of a s room ≡ ok (hits_from a 0 ss)
  lists-exactly = search-complete a s ss e q

  -- and the count is its length
  pub counts-exactly : count_of a s ≡ ok (length (hits_from a 0 ss))
  counts-exactly = count-complete a s ss e q

  -- the same, place by place: each once and in file order
  pub in_order : Ascending (length ss) 0 (hits_from a 0 ss)
  in_order = simp zero-add at (listing.hits-rise a 0 ss)

  -- and a place is listed exactly where its shape's own box meets
  pub listed-where-met : (i : ℕ) (x : Shape) (rest : List Shape) → drop i ss ≡ x ∷ rest → listed i (hits_from a 0 ss) ≡ hit a x.outline.xs x.outline.ys
  listed-where-met i x rest d = simp zero-add at (listing.hit-listed i a 0 ss x rest d)

  -- "'Everything' also lists empty shapes": it lists each shape, whatever its vertices
  pub everything-lists : (i : ℕ) (x : Shape) (rest : List Shape) → a.query ≡ Everything → drop i ss ≡ x ∷ rest → listed i (hits_from a 0 ss) ≡ true
  everything-lists i x rest w d = listed-where-met i x rest d ∙ hit-everything a x.outline.xs x.outline.ys w

  -- and a query for a spot or a window lists no shape that has no vertex
  pub empty-unlisted : (i : ℕ) (x : Shape) (rest : List Shape) → (a.query ≡ Everything → ⊥) → x.outline.xs ≡ [] → drop i ss ≡ x ∷ rest
      → listed i (hits_from a 0 ss) ≡ false
  empty-unlisted i x rest w n d =
      let z : length x.outline.xs ≡ 0 = ap length n in
      listed-where-met i x rest d ∙ not-true _ (λ h. w (hit-none a x.outline.xs x.outline.ys (omega (arith, z)) h))

-- "opening only pages whose stored box meets it": of two files whose frames pass and whose pages are alike up to their boxes and, where the query meets the box, in
-- their bodies, search (with any room) and count answer alike, accepted or not
module _ (a : Ask) (s t : List ℕ) (f g : Frame) (es : frame_of s ≡ ok f) (et : frame_of t ≡ ok g) (w : Alike a f.pages g.pages) where
  pub opens-only : (room : ℕ) → search_of a s room ≡ search_of a t room
  opens-only = apart.search-same a s t f g es et w

  pub opens-only-count : count_of a s ≡ count_of a t
  opens-only-count = apart.count_same a s t f g es et w
