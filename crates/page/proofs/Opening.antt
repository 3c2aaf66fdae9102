-- A page of a file, opened into a scratch that serves every page: the page's body is its part of the file, and what the answer says.
-- Assumes nothing.
use Prim.Native.Nat.{ℕ, ◌+◌, ◌-◌, ◌≤◌}
use mathlib.Core.Path.{◌≡◌, sym, ap, ap₂, subst, ◌∙◌}
use mathlib.Core.List.{List, ◌++◌}
use native.Mathlib.Omega.{arith}
use lib.ListN.{length, take, drop}
use lib.Seq.{length-take-le, take_at}
use Rattle.answer.specs.declared.Refusal.{Refusal}
use Rattle.answer.specs.Refusal.{on_page}
use Rattle.answer.specs.Outcome.{Out, refused, ok, on}
use Rattle.answer.specs.Rule.{passed}
use Rattle.answer.proofs.Outcomes.{never, ok-inj, refused-inj, marked_refused, marked-value}
use Rattle.answer.proofs.Rules.{refused-passed}
use Rattle.frame.specs.declared.cursor.Cursor.{Cursor}
use Rattle.frame.specs.declared.cursor.PageAt.{PageAt}
use Rattle.frame.specs.declared.head.Head.{Head}
use Rattle.frame.specs.Next.{page, part, next_of}
use Rattle.frame.proofs.Counts.{Limits}
use Rattle.frame.proofs.Heads.{head-is, head-limits}
use Rattle.frame.proofs.Ways.{page-inj}
use Rattle.frame.proofs.Found.{page-is}
use Rattle.frame.proofs.Parts.{length_part, part_in}
use Rattle.shape.specs.Outline.{Shape}
use Rattle.page.specs.Contents.{types_of, contents_of}
use Rattle.page.specs.declared.scratch.Scratch.{Scratch}
use Rattle.page.specs.Loaded.{Loaded}
use Rattle.page.specs.Opened.{contents_in, InScratch, Opens}
use Rattle.answer.proofs.Orders.{on-refused, on_value}
use Rattle.page.proofs.Loading.{head-stands}
use Rattle.page.proofs.Vertices.{vertices-long}
use Rattle.page.proofs.Contained.{counts-long, lens-long}

-- ---- the page in the file, and the start of its rooms

-- what a page's head says of its counts
pub limits_of : (s : List ℕ) (c : Cursor) (p : PageAt) → next_of s c ≡ ok (page p) → Limits p.head.g p.head.v p.head.p
limits_of s c p e = let q = (page-is s c p e).headed in head-limits _ _ _ (head-is c.edition _ p.head q)

pub part_of : (s : List ℕ) (body len : ℕ) → take (body + len - body) (drop body s) ≡ part s body len
part_of s body len = let z : body + len - body ≡ len = omega arith in ap (λ (n : ℕ). take n (drop body s)) z

-- its types, as they are cut from the file
module _ (s : List ℕ) (c : Cursor) (p : PageAt) (e : next_of s c ≡ ok (page p)) where
  types-there : p.head.layout.types + p.head.g ≤ p.len
  types-there =
      let k = page-is s c p e in
      omega (arith, (head-stands c.edition (part s p.body p.len) p.head k.headed).types, length_part s p.body p.len k.stands.fits)

  pub types-end : p.body + p.head.layout.types + p.head.g ≤ length s
  types-end = omega (arith, types-there, (page-is s c p e).stands.fits)

  pub types-in : (from to : ℕ) → from ≡ p.body + p.head.layout.types → to ≡ from + p.head.g
      → take (to - from) (drop from s) ≡ types_of p.head (part s p.body p.len)
  unfolding types_of
  types-in from to d f =
      let z : to - from ≡ p.head.g = omega arith in
      ap₂ (λ (n at : ℕ). take n (drop at s)) z d ∙ sym (part_in s p.body p.len p.head.layout.types p.head.g types-there)

-- the first n of a room that has room for them
pub first_of : (n k : ℕ) (l : List ℕ) → length l ≡ k → n ≤ k → n ≡ length (take n l)
first_of n k l e h = sym (length-take-le n l (omega arith))

-- lists that are loaded into the start of rooms stand there
pub loaded-first : (h : Head) (b counts lens xs ys counts₀ lens₀ xs₀ ys₀ : List ℕ) → Loaded h b counts lens xs ys
    → Loaded h b (take h.g (counts ++ drop h.g counts₀)) (take h.p (lens ++ drop h.p lens₀)) (take h.v (xs ++ drop h.v xs₀)) (take h.v (ys ++ drop h.v ys₀))
loaded-first h b counts lens xs ys counts₀ lens₀ xs₀ ys₀ y =
    let v = vertices-long h b xs ys y.vertices in
    rw (
      take_at counts (drop h.g counts₀) h.g (ap length y.counts_are ∙ counts-long h b),
      take_at lens (drop h.p lens₀) h.p (ap length y.lens_are ∙ lens-long h b),
      take_at xs (drop h.v xs₀) h.v v.0,
      take_at ys (drop h.v ys₀) h.v v.1,
    ) y

-- ---- what the call says

module _ (s : List ℕ) (c : Cursor) (r : Scratch) (p : PageAt) (e : next_of s c ≡ ok (page p)) where
  -- of any page that stands there, since it is this one
  said_at : (says : Out PageAt) → says ≡ on (contents_in s c.pages p) (λ here. ok p)
      → (q : PageAt) → next_of s c ≡ ok (page q) → says ≡ on (contents_in s c.pages q) (λ here. ok q)
  said_at says k q f = subst (λ (x : PageAt). says ≡ on (contents_in s c.pages x) (λ here. ok x)) (page-inj (ok-inj (sym e ∙ f))) k

  -- its contents are refused
  pub opens-refused : (w v : Refusal) → v ≡ on_page c.pages w → refused w ≡ passed (contents_of p.head (part s p.body p.len))
      → Opens s c (refused v) r
  opens-refused w v z j = record {
    said = said_at (refused v) (sym (on-refused (contents_in s c.pages p) _ v (marked_refused (on_page c.pages) w (refused-passed _ w j) ∙ ap refused (sym z))));
    lists = λ q f. absurd (let z : ◌≡◌ {A = ℕ} 0 1 = cc in omega arith);
  }

  -- they are read
  pub opens-page : InScratch s p r → Opens s c (ok p) r
  opens-page y = record {
    said = said_at (ok p) (sym (on_value (contents_in s c.pages p) _ _ (marked-value (on_page c.pages) _ y.shapes)));
    lists = λ q f. (let z : p ≡ q = cc in rw (← z) (e, y));
  }

-- and back
module _ (s : List ℕ) (c : Cursor) (says : Out PageAt) (r : Scratch) (o : Opens s c says r) where
  pub opened-refused : (p : PageAt) → next_of s c ≡ ok (page p) → (w : Refusal) → says ≡ refused w → contents_in s c.pages p ≡ refused w
  unfolding on
  opened-refused p e w q = go (contents_in s c.pages p) (sym (o.said p e) ∙ q)
    where
      go : (x : Out (List Shape)) → on x (λ here. ok p) ≡ refused w → x ≡ refused w
      go (refused v) h = ap refused (refused-inj h)
      go (ok here) h = absurd (never (sym h))
