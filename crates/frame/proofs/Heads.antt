-- Laws of a page's head: one for each way through `head_of`, what a head that was read says, and that this is all. Assumes nothing.
use Prim.Native.Nat.{ℕ, ◌+◌, ◌-◌, ◌^◌, ◌≤◌, ◌<◌}
use mathlib.Core.Path.{◌≡◌, refl, sym, ap, ap₂, subst, ◌∙◌}
use mathlib.Core.Bool.{true, false}
use mathlib.Core.List.{List}
use native.Mathlib.Omega.{arith}
use borrow.Author.Tests.{le-leb, lt-leb, eqb-true, eq-eqb, ne_eqb}
use lib.ListN.{length}
use Rattle.answer.specs.Table.{lengths, counts, box_form}
use Rattle.answer.specs.Refusal.{because}
use Rattle.answer.specs.Outcome.{refused, ok}
use Rattle.answer.proofs.Outcomes.{ok-inj, met, unmet, need-ok}
use Rattle.le.specs.Number.{number_at, Bytes}
use Rattle.le.proofs.Numbers.{number-at-lt}
use Rattle.extent.specs.Boxes.{bounds_at, FiniteBox, patterns, Words}
use Rattle.extent.specs.Forms.{floats_of}
use Rattle.extent.specs.declared.boxes.Box.{Box}
use Rattle.extent.proofs.Forms.{floats-patterns}
use Rattle.frame.specs.declared.layout.Layout.{Layout}
use Rattle.frame.specs.declared.head.Head.{Head}
use Rattle.frame.specs.Layout.{layout_of}
use Rattle.frame.specs.Head.{counts_ok, box_ok, sized_head, head_of}
use Rattle.frame.proofs.Layouts.{columns-at, columns-le, sizes-from}
use Rattle.frame.proofs.Counts.{Limits, counts-limits}
use Rattle.frame.proofs.Forms.{box-finite}

-- ---- the ways through `head_of`

module _ (edition : ℕ) (b : List ℕ) where
  pub head-short : length b < 38 → head_of edition b ≡ refused (because lengths)
  unfolding head_of
  head-short h = unmet (because lengths) _ (lt-leb 38 (length b) h)

  module _ (g v p : ℕ) (eg : g ≡ number_at 2 b 0) (ev : v ≡ number_at 2 b 2) (ep : p ≡ number_at 2 b 4) (h : 38 ≤ length b) where
    pub head-counts : counts_ok g v p ≡ false → head_of edition b ≡ refused (because counts)
    unfolding head_of
    head-counts e = met (because lengths) _ (le-leb 38 (length b) h) ∙ unmet (because counts) _ (rw (← eg, ← ev, ← ep) e)

    pub head-sized : counts_ok g v p ≡ true → head_of edition b ≡ sized_head edition b g v p
    unfolding head_of
    head-sized e =
        met (because lengths) _ (le-leb 38 (length b) h)
        ∙ met (because counts) _ (rw (← eg, ← ev, ← ep) e)
        ∙ rw (eg, ev, ep)

-- ---- and through `sized_head`

module _ (edition : ℕ) (b : List ℕ) (g v p : ℕ) (l : Layout) (el : layout_of edition g p ≡ l) where
  pub sized-short : length b < l.columns → sized_head edition b g v p ≡ refused (because lengths)
  unfolding sized_head
  sized-short h = rw el (unmet (because lengths) _ (lt-leb l.columns (length b) h))

  module _ (h : l.columns ≤ length b) (cx cy : ℕ) (ex : number_at 4 b l.sizes ≡ cx) (ey : number_at 4 b (l.sizes + 4) ≡ cy) where
    pub sized-length : (length b - l.columns ≡ cx + cy → ⊥) → sized_head edition b g v p ≡ refused (because lengths)
    unfolding sized_head
    sized-length n =
        rw (el, ex, ey)
        (met (because lengths) _ (le-leb l.columns (length b) h)
        ∙ unmet (because lengths) _ (ne_eqb (length b) (l.columns + cx + cy) (λ q. n (omega arith))))

    module _ (e : length b ≡ l.columns + cx + cy) where
      pub sized-box : box_ok v (bounds_at b 6) ≡ false → sized_head edition b g v p ≡ refused (because box_form)
      unfolding sized_head
      sized-box f =
          rw (el, ex, ey)
          (met (because lengths) _ (le-leb l.columns (length b) h)
          ∙ met (because lengths) _ (eq-eqb (length b) (l.columns + cx + cy) e)
          ∙ unmet (because box_form) _ f)

      pub sized-good : (box : Box) → box_ok v (bounds_at b 6) ≡ true → floats_of (bounds_at b 6) ≡ box
          → sized_head edition b g v p ≡ ok (record { g = g; v = v; p = p; stored = box; cx = cx; cy = cy; layout = l })
      unfolding sized_head
      sized-good box f eb =
          rw (el, ex, ey, eb)
          (met (because lengths) _ (le-leb l.columns (length b) h)
          ∙ met (because lengths) _ (eq-eqb (length b) (l.columns + cx + cy) e)
          ∙ met (because box_form) _ f)

-- ---- a head that was read

-- what the head h of a body b says
pub record Headed (edition : ℕ) (b : List ℕ) (h : Head) : Type 0 where
  pub shapes_at : h.g ≡ number_at 2 b 0
  pub vertices_at : h.v ≡ number_at 2 b 2
  pub parts_at : h.p ≡ number_at 2 b 4
  pub limits : counts_ok h.g h.v h.p ≡ true
  pub laid : h.layout ≡ layout_of edition h.g h.p
  pub x_at : h.cx ≡ number_at 4 b h.layout.sizes
  pub y_at : h.cy ≡ number_at 4 b (h.layout.sizes + 4)
  pub exact : length b ≡ h.layout.columns + h.cx + h.cy
  pub form : box_ok h.v (bounds_at b 6) ≡ true
  pub boxed : h.stored ≡ floats_of (bounds_at b 6)

module _ (edition : ℕ) (b : List ℕ) (h : Head) where
  -- a head that is read says this
  pub head-is : head_of edition b ≡ ok h → Headed edition b h
  unfolding head_of sized_head
  head-is e =
      let a = need-ok _ _ _ h e in
      let c = need-ok _ _ _ h a.1 in
      let d = need-ok _ _ _ h c.1 in
      let f = need-ok _ _ _ h d.1 in
      let i = need-ok _ _ _ h f.1 in
      subst (Headed edition b) (ok-inj i.1)
      (record {
        shapes_at = refl;
        vertices_at = refl;
        parts_at = refl;
        limits = c.0;
        laid = refl;
        x_at = refl;
        y_at = refl;
        exact = eqb-true _ _ f.0;
        form = i.0;
        boxed = refl;
      })

  -- and all that says this is read
  pub is-head : Headed edition b h → head_of edition b ≡ ok h
  is-head k =
      let l : 38 ≤ length b = omega (arith, k.exact, ap (λ (x : Layout). x.columns) k.laid, columns-at edition h.g h.p, sizes-from edition h.g h.p) in
      head-sized edition b h.g h.v h.p k.shapes_at k.vertices_at k.parts_at l k.limits
      ∙ sized-good edition b h.g h.v h.p h.layout (sym k.laid) (omega (arith, k.exact)) h.cx h.cy
      (sym k.x_at) (sym k.y_at) k.exact h.stored k.form (sym k.boxed)

  module _ (k : Headed edition b h) where
    pub head-limits : Limits h.g h.v h.p
    head-limits = counts-limits h.g h.v h.p k.limits

    pub head-finite : FiniteBox (bounds_at b 6)
    head-finite = box-finite h.v (bounds_at b 6) k.form

    -- the body reaches to the columns
    pub head-reaches : 46 ≤ length b
    head-reaches = omega (arith, k.exact, ap (λ (x : Layout). x.columns) k.laid, columns-at edition h.g h.p, sizes-from edition h.g h.p)

    -- and it is no longer than a block's length may say where the columns are no longer than 2,048 values may be, 1 + 8 * 2048 bytes
    pub head-long : h.cx ≤ 16385 → h.cy ≤ 16385 → length b < 2 ^ 32
    head-long x y =
        omega (
          arith,
          k.exact,
          ap (λ (l : Layout). l.columns) k.laid,
          x,
          y,
          columns-le edition h.g h.p head-limits.few (omega (arith, head-limits.parts, head-limits.vertices)),
        )

    -- the box's patterns are those that stand there
    pub head-patterns : Bytes b → patterns h.stored ≡ bounds_at b 6
    head-patterns y = ap patterns k.boxed ∙ floats-patterns (bounds_at b 6) words head-finite
      where
        words : Words (bounds_at b 6)
        words = unfold bounds_at in record {
          least_x = number-at-lt 8 b 6 y;
          least_y = number-at-lt 8 b 14 y;
          greatest_x = number-at-lt 8 b 22 y;
          greatest_y = number-at-lt 8 b 30 y;
        }

-- ---- a head that is read by its numbers, where the rules have let it pass

module _ (edition : ℕ) (b : List ℕ) (h : Head) (k : Headed edition b h) (g v p : ℕ) (eg : g ≡ number_at 2 b 0) (ev : v ≡ number_at 2 b 2) (ep : p ≡ number_at 2 b 4) where
  read-g : h.g ≡ g
  read-g = k.shapes_at ∙ sym eg

  read-p : h.p ≡ p
  read-p = k.parts_at ∙ sym ep

  pub read-few : (g ≤ 256) × (p ≤ 2048)
  read-few = let l = head-limits edition b h k in (omega (arith, l.few, read-g), omega (arith, l.parts, l.vertices, read-p))

  module _ (l : Layout) (el : l ≡ layout_of edition g p) where
    read-layout : h.layout ≡ l
    read-layout = k.laid ∙ ap₂ (layout_of edition) read-g read-p ∙ sym el

    pub read-sizes : l.sizes + 8 ≤ length b
    read-sizes =
        omega (
          arith,
          k.exact,
          ap (λ (x : Layout). x.columns) read-layout,
          ap (λ (x : Layout). x.columns) el,
          ap (λ (x : Layout). x.sizes) el,
          columns-at edition g p,
        )

    pub read_is : (cx cy : ℕ) (box : Box) → cx ≡ number_at 4 b l.sizes → cy ≡ number_at 4 b (l.sizes + 4) → box ≡ floats_of (bounds_at b 6)
        → h ≡ record { g = g; v = v; p = p; stored = box; cx = cx; cy = cy; layout = l }
    read_is cx cy box ex ey eb =
        let pv : h.v ≡ v = k.vertices_at ∙ sym ev in
        let px : h.cx ≡ cx = k.x_at ∙ ap (λ (x : Layout). number_at 4 b x.sizes) read-layout ∙ sym ex in
        let py : h.cy ≡ cy = k.y_at ∙ ap (λ (x : Layout). number_at 4 b (x.sizes + 4)) read-layout ∙ sym ey in
        let pb : h.stored ≡ box = k.boxed ∙ sym eb in
        λ i. record { g = read-g i; v = pv i; p = read-p i; stored = pb i; cx = px i; cy = py i; layout = read-layout i }
