-- A page that is opened, and one that is not: its hits, and what the walk says of them. Assumes nothing.
use mathlib.Core.Path.{◌≡◌, refl, sym, ap, ◌∙◌, subst}
use mathlib.Core.Bool.{Bool, true, false}
use mathlib.Core.List.{List, []}
use Prim.Native.Nat.{ℕ, ◌+◌}
use lib.ListN.{length}
use Rattle.answer.specs.declared.Refusal.{Refusal}
use Rattle.answer.specs.Refusal.{on_page}
use Rattle.answer.specs.Outcome.{Out, refused, ok, on, in_page}
use Rattle.answer.proofs.Outcomes.{never, ok-inj, on-ok, marked-value, marked-ok}
use Rattle.extent.specs.Boxes.{patterns}
use Rattle.query.specs.declared.ask.Ask.{Ask}
use Rattle.query.specs.Ask.{opens}
use Rattle.types.specs.Parts.{parts_hold}
use Rattle.shape.specs.Outline.{Outline, outlines_of, registered}
use Rattle.frame.specs.declared.head.Head.{Head}
use Rattle.frame.specs.declared.cursor.Cursor.{Cursor}
use Rattle.frame.specs.declared.cursor.PageAt.{PageAt}
use Rattle.frame.specs.Next.{page, next_of}
use Rattle.frame.specs.Frame.{Page, page_of}
use Rattle.frame.proofs.Ways.{page-inj}
use Rattle.page.specs.Contents.{registers_of, types_of, counts_of, lens_of, contents_of}
use Rattle.page.specs.Loaded.{Loaded}
use Rattle.answer.proofs.Orders.{on-refused, on_value, on-stopped}
use Rattle.page.proofs.Contained.{contents-contained, outlines-long, shapes-outlines, loaded-ready}
use Rattle.search.specs.Ascending.{Ascending, none}
use Rattle.search.specs.Search.{places_of, hits_from, opened_hits, page_hits}
use Rattle.search.specs.Flags.{bits_of, Adds}
use Rattle.search.specs.Met.{Meets, PageMeets}
use Rattle.search.proofs.Placing.{places-ascend}

-- ---- what the walk says of an outcome

pub meets-refused : {o : Out (List ℕ)} {n to : ℕ} {d e : List ℕ} (w : Refusal) → o ≡ refused w → Meets o n to (refused w) d e
unfolding on
meets-refused w q = record { said = rw q; flags = λ l k. absurd (never (sym q ∙ k)) }

pub meets-ok : {o : Out (List ℕ)} {n to : ℕ} {d e : List ℕ} (r : ℕ) (l : List ℕ) → o ≡ ok l → r ≡ length l → Adds d e n to (bits_of l)
    → Meets o n to (ok r) d e
unfolding on
meets-ok {n = n} {to = to} {d = d} {e = e} r l q h a = record {
  said = rw (q, h);
  flags = λ m k. subst (λ (x : List ℕ). Adds d e n to (bits_of x)) (ok-inj (sym q ∙ k)) a;
}

-- and back
module _ {o : Out (List ℕ)} {n to : ℕ} {d e : List ℕ} (r : Out ℕ) (m : Meets o n to r d e) where
  pub meets-refusal : (w : Refusal) → r ≡ refused w → o ≡ refused w
  meets-refusal w q = on-stopped o length w (sym m.said ∙ rw q)

  pub meets-hits : (k : ℕ) → r ≡ ok k → (l : List ℕ) × (o ≡ ok l) × (k ≡ length l)
  meets-hits k q = let x = on-ok o _ k (sym m.said ∙ rw q) in (x.0, x.1, sym (ok-inj x.2))

-- ---- the hits of a page

-- those of its shapes are those of their outlines
pub shapes-hits : (h : Head) (b xs ys : List ℕ) → parts_hold (types_of h b) (counts_of h b) (lens_of h b) h.v ≡ true → (a : Ask) (n : ℕ)
    → hits_from a n (registered (registers_of h b) (outlines_of (types_of h b) (counts_of h b) (lens_of h b) xs ys))
    ≡ places_of a n (outlines_of (types_of h b) (counts_of h b) (lens_of h b) xs ys)
unfolding hits_from
shapes-hits h b xs ys q a n = ap (places_of a n) (shapes-outlines h b xs ys q)

module _ (a : Ask) (k n : ℕ) (p : Page) where
  pub page-unopened : opens a p.head.v (patterns p.head.stored) ≡ false → page_hits a k n p ≡ ok []
  unfolding page_hits
  page-unopened e = rw e

  pub page-open : opens a p.head.v (patterns p.head.stored) ≡ true
      → page_hits a k n p ≡ opened_hits a k n p
  unfolding page_hits
  page-open e = rw e

  -- they ascend, and none is past the page's last shape
  pub page-ascends : (l : List ℕ) → page_hits a k n p ≡ ok l → Ascending (n + p.head.g) n l
  page-ascends l e = go (opens a p.head.v (patterns p.head.stored)) refl
    where
      h : Head
      h = p.head

      go : (t : Bool) → opens a p.head.v (patterns p.head.stored) ≡ t → Ascending (n + p.head.g) n l
      go false q = subst (Ascending (n + p.head.g) n) (ok-inj (sym (page-unopened q) ∙ e)) none
      go true q =
          let o = on-ok (in_page k (contents_of h p.body)) _ l (sym (page-open q) ∙ e) in
          let c = contents-contained h p.body o.0 (marked-ok (on_page k) (contents_of h p.body) o.0 o.1) in
          let w : List Outline = outlines_of (types_of h p.body) (counts_of h p.body) (lens_of h p.body) c.xs c.ys in
          let z : places_of a n w ≡ l = sym (shapes-hits h p.body c.xs c.ys c.parts a n) ∙ ap (hits_from a n) c.shapes ∙ ok-inj o.2 in
          let g : n + length w ≡ n + h.g = ap (λ (j : ℕ). n + j) (outlines-long h p.body c.xs c.ys c.parts) in
          subst (Ascending (n + h.g) n) z (subst (λ (to : ℕ). Ascending to n (places_of a n w)) g (places-ascend a n w))

-- ---- the contents of a page that was opened

pub opened-bad : (a : Ask) (k n to : ℕ) (p : Page) {d e : List ℕ} (w : Refusal) → in_page k (contents_of p.head p.body) ≡ refused w
    → Meets (opened_hits a k n p) n to (refused w) d e
opened-bad a k n to p w q = meets-refused w (on-refused (in_page k (contents_of p.head p.body)) _ w q)

module _ (h : Head) (b counts lens xs ys : List ℕ) (y : Loaded h b counts lens xs ys) (types : List ℕ) (t : types ≡ types_of h b) where
  pub contents-met : (a : Ask) (k n : ℕ) {d e : List ℕ} (r : ℕ) → r ≡ length (places_of a n (outlines_of types counts lens xs ys))
      → Adds d e n (n + length types) (bits_of (places_of a n (outlines_of types counts lens xs ys)))
      → Meets (on (in_page k (contents_of h b)) (λ here. ok (hits_from a n here))) n (n + h.g) (ok r) d e
  contents-met a k n {d = d} {e = e} r c f =
      let ss = registered (registers_of h b) (outlines_of (types_of h b) counts lens xs ys) in
      let z : hits_from a n ss ≡ places_of a n (outlines_of types counts lens xs ys) = rw (t, y.counts_are, y.lens_are) (shapes-hits h b xs ys (rw (← y.counts_are, ← y.lens_are) y.parts) a n) in
      let o : on (in_page k (contents_of h b)) (λ here. ok (hits_from a n here)) ≡ ok (places_of a n (outlines_of types counts lens xs ys)) = on_value (in_page k (contents_of h b)) _ ss (marked-value (on_page k) ss y.shapes) ∙ ap ok z in
      meets-ok r (places_of a n (outlines_of types counts lens xs ys)) o c
      (subst (λ (m : ℕ). Adds d e n (n + m) (bits_of (places_of a n (outlines_of types counts lens xs ys)))) (loaded-ready h b counts lens xs ys y types t).0 f)

-- so what is said of an opened page's contents is said of its hits
pub opened-meets : {d e : List ℕ} (a : Ask) (k n to : ℕ) (p : Page) (r : Out ℕ) → opens a p.head.v (patterns p.head.stored) ≡ true
    → Meets (opened_hits a k n p) n to r d e → Meets (page_hits a k n p) n to r d e
opened-meets {d = d} {e = e} a k n to p r t m = subst (λ (o : Out (List ℕ)). Meets o n to r d e) (sym (page-open a k n p t)) m

-- and of the page that stands at a cursor, since there is only one
pub meets-there : {d e : List ℕ} (a : Ask) (s : List ℕ) (c : Cursor) (r : Out ℕ) (p : PageAt) → next_of s c ≡ ok (page p)
    → Meets (opened_hits a c.pages c.shapes (page_of s p)) c.shapes (c.shapes + p.head.g) r d e → PageMeets a s c r d e
meets-there {d = d} {e = e} a s c r p f m q g =
    subst (λ (x : PageAt). Meets (opened_hits a c.pages c.shapes (page_of s x)) c.shapes (c.shapes + x.head.g) r d e) (page-inj (ok-inj (sym f ∙ g))) m
