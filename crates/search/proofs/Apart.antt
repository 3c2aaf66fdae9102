-- "Opens only": files whose frames pass and whose pages are alike to the end of their boxes, and alike throughout where the query meets the box, have
-- the same search and the same count. Assumes nothing.
use mathlib.Core.Path.{◌≡◌, refl, sym, ap, ◌∙◌, subst}
use mathlib.Core.Bool.{Bool, true, false}
use mathlib.Core.List.{List, [], ◌∷◌, ◌++◌}
use Prim.Native.Nat.{ℕ, suc, ◌+◌, ◌≤◌}
use native.Mathlib.Omega.{arith}
use lib.ListN.{length, take}
use Rattle.answer.specs.Table as table
use Rattle.answer.specs.Rule.{rule}
use Rattle.answer.specs.Outcome.{Out, ok, on}
use Rattle.answer.proofs.Outcomes.{ok-inj}
use Rattle.le.specs.Number.{number_at}
use Rattle.le.proofs.Bytes.{number-at-part}
use Rattle.extent.specs.Boxes.{bounds_at, patterns}
use Rattle.extent.specs.Forms.{floats_of}
use Rattle.query.specs.declared.ask.Ask.{Ask}
use Rattle.query.specs.Ask.{good_query, opens}
use Rattle.frame.specs.declared.head.Head.{Head}
use Rattle.frame.specs.declared.cursor.Cursor.{Cursor}
use Rattle.frame.specs.declared.cursor.PageAt.{PageAt}
use Rattle.frame.specs.Head.{head_of}
use Rattle.frame.specs.Frame.{Page, Frame, frame_of}
use Rattle.frame.proofs.Heads.{head-is}
use Rattle.frame.proofs.Found.{first-is, page-is}
use Rattle.frame.specs.Ahead.{Ahead}
use Rattle.frame.proofs.Ahead.{ahead-start, ahead-some}
use Rattle.answer.proofs.Orders.{on_value}
use Rattle.search.specs.Search.{page_hits, met_of, hits_of, search_of, count_of}
use Rattle.search.specs.Alike.{AlikePage, Alike, none, more}
use Rattle.search.proofs.Sequence.{met-cons, met-order, hits-order}
use Rattle.search.proofs.Opened.{page-unopened}
use Rattle.search.proofs.Services.{search-by-hits}

-- ---- a head, by the bytes to the end of its box

-- a number that stands there
number_same : (k i : ℕ) (b c : List ℕ) → i + k ≤ 38 → take 38 b ≡ take 38 c → number_at k b i ≡ number_at k c i
number_same k i b c h e =
    let z : 0 + i ≡ i = omega arith in
    ap (number_at k b) (sym z) ∙ sym (number-at-part k 38 0 i b h) ∙ ap (λ (l : List ℕ). number_at k l i) e ∙ number-at-part k 38 0 i c h ∙ ap (number_at k c) z

bounds-same : (b c : List ℕ) → take 38 b ≡ take 38 c → bounds_at b 6 ≡ bounds_at c 6
unfolding bounds_at
bounds-same b c e =
    let x = number_same 8 6 b c (omega arith) e in
    let y = number_same 8 14 b c (omega arith) e in
    let z = number_same 8 22 b c (omega arith) e in
    let w = number_same 8 30 b c (omega arith) e in
    λ i. record { least_x = x i; least_y = y i; greatest_x = z i; greatest_y = w i }

-- heads of bodies that are the same to the end of the box
module _ (edition : ℕ) (b c : List ℕ) (h k : Head) (eh : head_of edition b ≡ ok h) (ek : head_of edition c ≡ ok k) (e : take 38 b ≡ take 38 c) where
  pub head-shapes : h.g ≡ k.g
  head-shapes = (head-is edition b h eh).shapes_at ∙ number_same 2 0 b c (omega arith) e ∙ sym (head-is edition c k ek).shapes_at

  pub head-vertices : h.v ≡ k.v
  head-vertices = (head-is edition b h eh).vertices_at ∙ number_same 2 2 b c (omega arith) e ∙ sym (head-is edition c k ek).vertices_at

  pub head-stored : h.stored ≡ k.stored
  head-stored = (head-is edition b h eh).boxed ∙ ap floats_of (bounds-same b c e) ∙ sym (head-is edition c k ek).boxed

-- ---- a page

-- what two pages have in common, for one query
pub record SamePage (a : Ask) (p q : Page) : Type 0 where
  pub shapes : p.head.g ≡ q.head.g
  pub vertices : p.head.v ≡ q.head.v
  pub stored : p.head.stored ≡ q.head.stored
  pub same : opens a p.head.v (patterns p.head.stored) ≡ true → p ≡ q

pub same-page : (edition : ℕ) (a : Ask) (p q : Page) → head_of edition p.body ≡ ok p.head → head_of edition q.body ≡ ok q.head → AlikePage a p q → SamePage a p q
same-page edition a p q ep eq' w = record {
  shapes = head-shapes edition p.body q.body p.head q.head ep eq' w.start;
  vertices = head-vertices edition p.body q.body p.head q.head ep eq' w.start;
  stored = head-stored edition p.body q.body p.head q.head ep eq' w.start;
  same = λ o. one (w.body o);
}
  where
    one : p.body ≡ q.body → p ≡ q
    one e = let h : p.head ≡ q.head = ok-inj (sym ep ∙ ap (head_of edition) e ∙ eq') in λ i. record { head = h i; body = e i }

pub page-same : (a : Ask) (k n : ℕ) (p q : Page) → SamePage a p q → page_hits a k n p ≡ page_hits a k n q
page-same a k n p q w = go (opens a p.head.v (patterns p.head.stored)) refl
  where
    go : (t : Bool) → opens a p.head.v (patterns p.head.stored) ≡ t → page_hits a k n p ≡ page_hits a k n q
    go true e = ap (page_hits a k n) (w.same e)
    go false e =
        let o : opens a q.head.v (patterns q.head.stored) ≡ false = sym (λ i. opens a (w.vertices i) (patterns (w.stored i))) ∙ e in
        page-unopened a k n p e ∙ sym (page-unopened a k n q o)

-- ---- pages, as they come in files whose frames are sound

-- the head of the page that comes next is that of its body, and the edition stays
next-head : (s : List ℕ) (c : Cursor) (q : Page) (qs : List Page) → Ahead s c (q ∷ qs)
    → (head_of c.edition q.body ≡ ok q.head) × ((d : Cursor) × (d.edition ≡ c.edition) × Ahead s d qs)
next-head s c q qs w =
    let k = ahead-some s c q qs w in
    let p : PageAt = k.0 in
    let f = page-is s c p k.1 in (
      subst (λ (x : Page). head_of c.edition x.body ≡ ok x.head) k.2 f.headed,
      (p.next, ap (λ (x : Cursor). x.edition) f.next, k.3),
    )

pub met-same : (ps qs : List Page) (a : Ask) (k n : ℕ) (s t : List ℕ) (c d : Cursor) → Ahead s c ps → Ahead t d qs → d.edition ≡ c.edition → Alike a ps qs
    → met_of a k n ps ≡ met_of a k n qs
met-same [] [] a k n s t c d x y e none = refl
met-same [] (q ∷ qs) a k n s t c d x y e w = elim w [ ]
met-same (p ∷ ps) [] a k n s t c d x y e w = elim w [ ]
met-same (p ∷ ps) (q ∷ qs) a k n s t c d x y e (more w r) =
    let u = next-head s c p ps x in
    let v = next-head t d q qs y in
    let v' : head_of c.edition q.body ≡ ok q.head = rw (← e) v.0 in
    let same = same-page c.edition a p q u.0 v' w in
    let g : n + p.head.g ≡ n + q.head.g = ap (λ (m : ℕ). n + m) same.shapes in
    let others : met_of a (suc k) (n + p.head.g) ps ≡ met_of a (suc k) (n + q.head.g) qs = met-same ps qs a (suc k) (n + p.head.g) s t u.1.0 v.1.0 u.1.2 v.1.2 (v.1.1 ∙ e ∙ sym u.1.1) r ∙ ap (λ (m : ℕ). met_of a (suc k) m qs) g in
    met-cons a k n p ps
    ∙ (λ i. on (page-same a k n p q same i) (λ here. on (others i) (λ rest. ok (here ++ rest))))
    ∙ sym (met-cons a k n q qs)

-- ---- files

module _ (a : Ask) (s t : List ℕ) (f h : Frame) (es : frame_of s ≡ ok f) (et : frame_of t ≡ ok h) (w : Alike a f.pages h.pages) where
  pub hits-same : hits_of a s ≡ hits_of a t
  hits-same =
      let x = ahead-start s f es in
      let y = ahead-start t h et in
      let one = ap (λ (c : Cursor). c.edition) (first-is s x.0 x.1).after in
      let two = ap (λ (c : Cursor). c.edition) (first-is t y.0 y.1).after in
      let m : met_of a 0 0 f.pages ≡ met_of a 0 0 h.pages = met-same f.pages h.pages a 0 0 s t x.0 y.0 x.3 y.3 (two ∙ sym one) w in
      hits-order a s
      ∙ ap (λ (o : Out (List ℕ)). on (rule (good_query a.query) table.query) (λ _. o))
      (met-order a s ∙ on_value (frame_of s) _ f es ∙ m ∙ sym (met-order a t ∙ on_value (frame_of t) _ h et))
      ∙ sym (hits-order a t)

  -- the search, with any room
  pub search-same : (room : ℕ) → search_of a s room ≡ search_of a t room
  search-same room = search-by-hits a s t room hits-same

  -- the count
  pub count_same : count_of a s ≡ count_of a t
  unfolding count_of
  count_same = ap (λ (o : Out (List ℕ)). on o (λ l. ok (length l))) hits-same
