-- The hits of a file ascend and are places of the file, so that its flags give them back. Assumes nothing.
use mathlib.Core.Path.{◌≡◌, sym, ap, ◌∙◌, subst}
use mathlib.Core.List.{List, [], ◌∷◌, ◌++◌}
use Prim.Native.Nat.{ℕ, suc, ◌+◌, ◌≤◌}
use native.Mathlib.Omega.{arith}
use Rattle.answer.specs.Table as table
use Rattle.answer.specs.Outcome.{ok}
use Rattle.answer.specs.Rule.{rule}
use Rattle.answer.proofs.Outcomes.{ok-inj, on-ok}
use Rattle.query.specs.declared.ask.Ask.{Ask}
use Rattle.query.specs.Ask.{good_query}
use Rattle.frame.specs.declared.cursor.Cursor.{Cursor}
use Rattle.frame.specs.declared.cursor.PageAt.{PageAt}
use Rattle.frame.specs.Frame.{Page, Frame, frame_of, shapes_of}
use Rattle.frame.proofs.Found.{page-is}
use Rattle.frame.proofs.Walks.{shapes-on}
use Rattle.frame.specs.Ahead.{Ahead}
use Rattle.frame.proofs.Ahead.{ahead-start, ahead-some}
use Rattle.search.specs.Ascending.{Ascending, none}
use Rattle.search.specs.Search.{page_hits, met_of, hits_of}
use Rattle.search.specs.Flags.{bits_of, places_in}
use Rattle.search.proofs.Sequence.{met-none, met-cons, met-order, hits-order}
use Rattle.search.proofs.Rising.{rising-wider, rising-join}
use Rattle.search.proofs.Opened.{page-ascends}
use Rattle.search.proofs.Bits.{places-zero, places-back}

-- ---- not more than 262,144 shapes

ahead-few : (ps : List Page) (s : List ℕ) (c : Cursor) → Ahead s c ps → c.shapes + shapes_of ps ≤ 262144
unfolding shapes_of
ahead-few [] s c a = omega (arith, a.within.shapes, a.within.pages)
ahead-few (q ∷ qs) s c a =
    let k = ahead-some s c q qs a in
    let p : PageAt = k.0 in
    let r = ahead-few qs s p.next k.3 in
    let g : p.head.g ≡ q.head.g = ap (λ (x : Page). x.head.g) k.2 in
    omega (arith, r, g, shapes-on s c a.within p (page-is s c p k.1))

pub frame-few : (s : List ℕ) (f : Frame) → frame_of s ≡ ok f → shapes_of f.pages ≤ 262144
frame-few s f e = let a = ahead-start s f e in let r = ahead-few f.pages s a.0 a.3 in omega (arith, r)

-- ---- ascending

-- those of pages, the first of which begins at place n
pub met-ascends : (ps : List Page) (a : Ask) (k n : ℕ) (l : List ℕ) → met_of a k n ps ≡ ok l → Ascending (n + shapes_of ps) n l
unfolding shapes_of
met-ascends [] a k n l e = subst (Ascending (n + 0) n) (ok-inj (sym (met-none a k n) ∙ e)) none
met-ascends (p ∷ ps) a k n l e =
    let x = on-ok (page_hits a k n p) _ l (sym (met-cons a k n p ps) ∙ e) in
    let y = on-ok (met_of a (suc k) (n + p.head.g) ps) _ l x.2 in
    let here : List ℕ = x.0 in
    let rest : List ℕ = y.0 in
    let z : n + p.head.g + shapes_of ps ≡ n + (p.head.g + shapes_of ps) = omega arith in
    let q : here ++ rest ≡ l = ok-inj y.2 in
    let r : Ascending (n + (p.head.g + shapes_of ps)) (n + p.head.g) rest = subst (λ (to : ℕ). Ascending to (n + p.head.g) rest) z (met-ascends ps a (suc k) (n + p.head.g) rest y.1) in
    subst (Ascending (n + (p.head.g + shapes_of ps)) n) q
    (rising-join n here rest (omega arith) (omega arith) (page-ascends a k n p here x.1) r)

module _ (a : Ask) (s l : List ℕ) (e : hits_of a s ≡ ok l) where
  -- a file's hits are those of its pages
  pub hits-met : (f : Frame) × (frame_of s ≡ ok f) × (met_of a 0 0 f.pages ≡ ok l)
  hits-met =
      let x = on-ok (rule (good_query a.query) table.query) _ l (sym (hits-order a s) ∙ e) in
      on-ok (frame_of s) _ l (sym (met-order a s) ∙ x.2)

  pub hits-ascend : Ascending (shapes_of hits-met.0.pages) 0 l
  hits-ascend =
      let z : 0 + shapes_of hits-met.0.pages ≡ shapes_of hits-met.0.pages = omega arith in
      subst (λ (to : ℕ). Ascending to 0 l) z (met-ascends hits-met.0.pages a 0 0 l hits-met.2)

  pub hits-within : Ascending 262144 0 l
  hits-within = rising-wider 0 0 l (omega arith) (frame-few s hits-met.0 hits-met.1) hits-ascend

  -- and flags with their bits give them back
  pub hits-back : (x : ℕ) → x ≡ bits_of l → places_in 0 262144 x ≡ l
  hits-back x q =
      let z : 0 + bits_of l ≡ bits_of l = omega arith in
      ap (places_in 0 262144) (q ∙ sym z) ∙ places-back 0 l 0 (omega arith) hits-within ∙ ap (λ (k : List ℕ). k ++ l) (places-zero 0 262144)
