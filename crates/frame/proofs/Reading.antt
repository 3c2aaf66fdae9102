-- What is read of a page in the bytes of its file is what its head says, so that a walk over a file whose frame has passed need test nothing.
-- Assumes nothing.
use Prim.Native.Nat.{ℕ, ◌+◌, ◌-◌, ◌≤◌}
use mathlib.Core.Path.{◌≡◌, refl, sym, ap, ap₂, ◌∙◌}
use mathlib.Core.List.{List}
use native.Mathlib.Omega.{arith}
use lib.ListN.{length, take, drop}
use Rattle.answer.specs.Outcome.{ok}
use Rattle.le.specs.Number.{number_at}
use Rattle.le.proofs.Bytes.{number-at-part}
use Rattle.block.specs.Block.{head_bytes, len_at}
use Rattle.extent.specs.declared.boxes.Box.{Box}
use Rattle.extent.specs.Boxes.{bounds_at, FiniteBox}
use Rattle.extent.specs.Forms.{floats_of}
use Rattle.frame.specs.declared.head.Head.{Head}
use Rattle.frame.specs.declared.cursor.Cursor.{Cursor}
use Rattle.frame.specs.declared.cursor.PageAt.{PageAt}
use Rattle.frame.specs.Layout.{shapes_place, vertices_place, bounds_place}
use Rattle.frame.specs.Head.{head_of}
use Rattle.frame.specs.Next.{part, page, next_of, glance_of}
use Rattle.frame.proofs.Heads.{Headed, head-is, head-limits, head-reaches, head-finite}
use Rattle.frame.proofs.Ways.{part-head}
use Rattle.frame.proofs.Found.{Paged, page-is, is-page}
use Rattle.frame.proofs.Parts.{length_part}

module _ (s : List ℕ) (c : Cursor) (p : PageAt) (e : next_of s c ≡ ok (page p)) where
  there : Paged s c p
  there = page-is s c p e

  headed : Headed c.edition (part s p.body p.len) p.head
  headed = head-is _ _ _ there.headed

  -- the first 46 bytes of its body are there
  pub page-reaches : c.at + 52 ≤ length s
  page-reaches =
      let k = there.stands in
      let l = length_part s p.body p.len k.fits in
      omega (arith, head-reaches _ _ _ headed, l, k.fits, k.body_at)

  -- a number of them, in the body and in the file
  body-number : (n i : ℕ) → i + n ≤ 46 → number_at n (part s p.body p.len) i ≡ number_at n s (c.at + head_bytes + i)
  body-number n i h =
      let k = there.stands in
      let l = length_part s p.body p.len k.fits in
      number-at-part n p.len p.body i s (omega (arith, head-reaches _ _ _ headed, l, h))
      ∙ ap (λ (b : ℕ). number_at n s (b + i)) k.body_at

  pub page-length : number_at 4 s c.at ≡ p.len
  page-length = there.stands.len_at

  pub page-ends : c.at + 6 + p.len ≤ length s
  page-ends = omega (arith, there.stands.fits, there.stands.body_at)

  pub page-shapes : number_at 2 s (c.at + head_bytes + shapes_place) ≡ p.head.g
  page-shapes = sym (body-number 2 shapes_place (omega arith)) ∙ sym headed.shapes_at

  pub page-vertices : number_at 2 s (c.at + head_bytes + vertices_place) ≡ p.head.v
  page-vertices = sym (body-number 2 vertices_place (omega arith)) ∙ sym headed.vertices_at

  -- its box
  page-bounds : bounds_at (part s p.body p.len) bounds_place ≡ bounds_at s (c.at + head_bytes + bounds_place)
  unfolding bounds_at
  page-bounds =
      let at : (i : ℕ) → bounds_place + i + 8 ≤ 46 → number_at 8 (part s p.body p.len) (bounds_place + i) ≡ number_at 8 s (c.at + head_bytes + bounds_place + i) =
      λ i h. let m : c.at + 6 + (6 + i) ≡ c.at + 6 + 6 + i = omega arith in body-number 8 (6 + i) h ∙ ap (number_at 8 s) m in
      λ i. record {
        least_x = body-number 8 bounds_place (omega arith) i;
        least_y = at 8 (omega arith) i;
        greatest_x = at 16 (omega arith) i;
        greatest_y = at 24 (omega arith) i;
      }

  pub page-finite : FiniteBox (bounds_at s (c.at + head_bytes + bounds_place))
  page-finite = rw (← page-bounds) (head-finite _ _ _ headed)

  -- at most 256 shapes, and not the 1,025th page
  pub page-few : (p.head.g ≤ 256) × (c.pages ≤ 1023)
  page-few = ((head-limits _ _ _ headed).few, omega (arith, there.few))

  -- a glance by these numbers is that at the page
  pub glance-is : (n g v : ℕ) (b : Box) → n ≡ len_at s c.at → g ≡ number_at 2 s (c.at + head_bytes + shapes_place)
      → v ≡ number_at 2 s (c.at + head_bytes + vertices_place) → b ≡ floats_of (bounds_at s (c.at + head_bytes + bounds_place))
      → record { v = v; stored = b; next = record { edition = c.edition; at = c.at + 6 + n; pages = c.pages + 1; shapes = c.shapes + g } } ≡ glance_of p
  glance-is n g v b en eg ev eb =
      let l : n ≡ p.len = en ∙ page-length in
      let h : g ≡ p.head.g = eg ∙ page-shapes in
      let a : c.at + 6 + n ≡ p.body + p.len = omega (arith, l, there.stands.body_at) in
      let next : record { edition = c.edition; at = c.at + 6 + n; pages = c.pages + 1; shapes = c.shapes + g } ≡ p.next =
      (λ i. record { edition = c.edition; at = a i; pages = c.pages + 1; shapes = c.shapes + h i }) ∙ sym there.next in
      λ i. record {
        v = (ev ∙ page-vertices) i;
        stored = (eb ∙ ap floats_of (sym page-bounds) ∙ sym headed.boxed) i;
        next = next i;
      }

  -- the body by these numbers, as the code takes it, has the page's head
  pub page-head : (n : ℕ) → n ≡ number_at 4 s c.at → head_of c.edition (take (c.at + 6 + n - (c.at + 6)) (drop (c.at + 6) s)) ≡ ok p.head
  page-head n en =
      part-head c.edition s (c.at + 6) n
      ∙ ap₂ (λ (b l : ℕ). head_of c.edition (part s b l)) (sym there.stands.body_at) (en ∙ page-length)
      ∙ there.headed

  -- and the page by these numbers and that head is the page
  pub page-read : (n : ℕ) (h : Head) → n ≡ number_at 4 s c.at → head_of c.edition (take (c.at + 6 + n - (c.at + 6)) (drop (c.at + 6) s)) ≡ ok h
      → next_of s c ≡ ok (page (record { head = h; body = c.at + 6; len = n; next = record { edition = c.edition; at = c.at + 6 + n; pages = c.pages + 1; shapes = c.shapes + h.g } }))
  page-read n h en eh =
      is-page s c _ (record {
        stands = rw (en ∙ page-length, ← there.stands.body_at) there.stands;
        few = there.few;
        headed = sym (part-head c.edition s (c.at + 6) n) ∙ eh;
        next = refl;
      })
