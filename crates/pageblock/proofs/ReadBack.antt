-- Reading back: the body of a page that passes has the head and the contents of what was handed in. Assumes nothing.
use Prim.Native.Nat.{ℕ, ◌+◌, ◌*◌, ◌^◌, ◌≤◌, ◌<◌}
use mathlib.Core.Path.{◌≡◌, refl, sym, ap, ap₂, subst, ◌∙◌}
use mathlib.Core.Bool.{Bool, true, false, not, ◌||◌}
use mathlib.Core.List.{List}
use native.Mathlib.Omega.{arith}
use lib.Dec.{ltb, eqb}
use lib.ListN.{length, drop}
use borrow.Author.Tests.{eqb-true, eqb-false}
use Rattle.answer.specs.Table as table
use Rattle.answer.specs.Axis as Axis
use Rattle.answer.specs.Refusal.{on_column}
use Rattle.answer.specs.Outcome.{ok}
use Rattle.answer.proofs.Outcomes.{marked-value}
use Rattle.answer.proofs.Rules.{rule-holds}
use Rattle.le.specs.Number.{Fits}
use Rattle.extent.specs.declared.bounds.Bounds.{Bounds}
use Rattle.extent.specs.Boxes.{bounds_at, patterns, spot_of, box_of, Words}
use Rattle.extent.specs.Forms.{floats_of}
use Rattle.extent.proofs.Boxed.{box-met, box-good}
use Rattle.extent.specs.FirstMet.{Met}
use Rattle.extent.proofs.Forms.{floats-patterns}
use Rattle.extent.proofs.Sames.{same-box-refl}
use Rattle.column.specs.Column.{encode}
use Rattle.column.specs.Read.{decode_of}
use Rattle.column.proofs.Trips.{decodes-written}
use Rattle.types.specs.Parts.{parts_rule}
use Rattle.shape.specs.Outline.{registered}
use Rattle.shape.specs.Rules.{box_holds, box_rule}
use Rattle.frame.specs.declared.layout.Layout.{Layout}
use Rattle.frame.specs.Layout.{each, layout_of}
use Rattle.frame.specs.Whole.{Says}
use Rattle.frame.specs.Head.{all_zero, box_ok, head_of}
use Rattle.frame.proofs.Forms.{box-none, box-some, box-finite}
use Rattle.frame.proofs.Heads.{Headed, is-head, head-long}
use Rattle.frame.proofs.Layouts.{columns-at}
use Rattle.page.specs.Contents.{registers_of, types_of, counts_of, lens_of, x_part, y_part, vertices_of, contents_of}
use Rattle.answer.proofs.Orders.{on_value}
use Rattle.pageblock.specs.Body.{Handed, body_of}
use Rattle.pageblock.specs.Page.{outlines}
use Rattle.pageblock.specs.Typed.{Typed}
use Rattle.pageblock.specs.Ready.{FiniteVertices}
use Rattle.pageblock.specs.Written.{head_for, page_for}
use Rattle.pageblock.proofs.Passing.{Passed, even-limits, passed-sound}
use Rattle.pageblock.proofs.Sizes.{body-size, column-most}
use Rattle.extent.proofs.Spanned.{no-bounds}
use Rattle.pageblock.proofs.Standing.{number-stands, numbers-stand, bytes-stand}
use Rattle.pageblock.proofs.Places.{at_g, at-v, at_p, at-least-x, at-least-y, at-greatest-x, at-greatest-y, at-registers, at-types, at-part-counts, at-lens, at-cx, at-cy, at_x, at_y}

-- ---- the box

-- what was met in a list is one of its patterns
met-word : (R S : ℕ → ℕ → Type 0) (l : List ℕ) (v : ℕ) → Fits 64 l → Met R S l v → v < 2 ^ 64
met-word R S l v h m = subst (λ (n : ℕ). n < 2 ^ 64) (sym m.found) (h m.place)

box-words : (i : Handed) → Typed i → length i.ys ≡ length i.xs → Words (box_of i.xs i.ys)
box-words i t e = go (eqb (length i.xs) 0) refl
  where
    zero : Words (spot_of 0 0)
    zero = record { least_x = omega arith; least_y = omega arith; greatest_x = omega arith; greatest_y = omega arith }

    go : (z : Bool) → eqb (length i.xs) 0 ≡ z → Words (box_of i.xs i.ys)
    go true q = subst Words (no-bounds i.xs i.ys (eqb-true _ _ q)) zero
    go false q =
        let n : length i.xs ≡ 0 → ⊥ = eqb-false _ _ q in
        let b = box-met i.xs i.ys (omega arith) (omega (arith, e)) in
        record {
          least_x = met-word _ _ i.xs _ t.xs b.least_x;
          least_y = met-word _ _ i.ys _ t.ys b.least_y;
          greatest_x = met-word _ _ i.xs _ t.xs b.greatest_x;
          greatest_y = met-word _ _ i.ys _ t.ys b.greatest_y;
        }

box-form : (xs ys : List ℕ) → FiniteVertices xs ys → box_ok (length xs) (box_of xs ys) ≡ true
box-form xs ys s = go (eqb (length xs) 0) refl
  where
    zero : all_zero (spot_of 0 0) ≡ true
    zero = unfold all_zero in refl

    go : (z : Bool) → eqb (length xs) 0 ≡ z → box_ok (length xs) (box_of xs ys) ≡ true
    go true q = box-none (length xs) (box_of xs ys) (eqb-true _ _ q) ∙ subst (λ (b : Bounds). all_zero b ≡ true) (no-bounds xs ys (eqb-true _ _ q)) zero
    go false q =
        let n : length xs ≡ 0 → ⊥ = eqb-false _ _ q in
        box-some (length xs) (box_of xs ys) n ∙ box-good xs ys (omega arith) s.same s.finite_x s.finite_y

-- ---- the head

head-vertices : (ed : ℕ) (i : Handed) → (head_for ed i).v ≡ length i.xs
unfolding head_for
head-vertices ed i = refl

module _ (ed : ℕ) (i : Handed) (t : Typed i) (q : Passed i) where
  s : FiniteVertices i.xs i.ys
  s = passed-sound i q

  words : Words (box_of i.xs i.ys)
  words = box-words i t s.same

  bounds : bounds_at (body_of ed i) 6 ≡ box_of i.xs i.ys
  unfolding bounds_at
  bounds k = record {
    least_x = number-stands 8 _ (body_of ed i) _ 6 words.least_x (at-least-x ed i).1 k;
    least_y = number-stands 8 _ (body_of ed i) _ 14 words.least_y (at-least-y ed i).1 k;
    greatest_x = number-stands 8 _ (body_of ed i) _ 22 words.greatest_x (at-greatest-x ed i).1 k;
    greatest_y = number-stands 8 _ (body_of ed i) _ 30 words.greatest_y (at-greatest-y ed i).1 k;
  }

  -- each part stands where the layout says
  abbrev places : Layout
  places = layout_of ed (length i.registers) (length i.lens)

  types-place : places.types ≡ 38 + each ed * length i.registers
  unfolding layout_of
  types-place = refl

  counts-place : places.counts ≡ places.types + length i.types
  unfolding layout_of
  counts-place = ap (λ (n : ℕ). 38 + each ed * length i.registers + n) (sym q.even.types_even)

  lens-place : places.lens ≡ places.counts + 2 * length i.counts
  unfolding layout_of
  lens-place = ap (λ (n : ℕ). 38 + each ed * length i.registers + length i.registers + 2 * n) (sym q.even.counts_even)

  sizes-place : places.sizes ≡ places.lens + 2 * length i.lens
  unfolding layout_of
  sizes-place = refl

  x-few : length (encode 64 i.xs) ≤ 16385
  x-few = column-most i.xs s.few

  y-few : length (encode 64 i.ys) ≤ 16385
  y-few = column-most i.ys (omega (arith, s.same, s.few))

  headed : Headed ed (body_of ed i) (head_for ed i)
  unfolding head_for
  headed =
      let m = even-limits i q.even in
      let g : length i.registers < 2 ^ (8 * 2) = omega (arith, m.few) in
      let v : length i.xs < 2 ^ (8 * 2) = omega (arith, m.vertices) in
      let p : length i.lens < 2 ^ (8 * 2) = omega (arith, m.vertices, m.parts) in
      let x : length (encode 64 i.xs) < 2 ^ (8 * 4) = omega (arith, x-few) in
      let y : length (encode 64 i.ys) < 2 ^ (8 * 4) = omega (arith, y-few) in
      record {
        shapes_at = sym (number-stands 2 (length i.registers) (body_of ed i) _ 0 g (at_g ed i).1);
        vertices_at = sym (number-stands 2 (length i.xs) (body_of ed i) _ 2 v (at-v ed i).1);
        parts_at = sym (number-stands 2 (length i.lens) (body_of ed i) _ 4 p (at_p ed i).1);
        limits = q.even.within;
        laid = refl;
        x_at = sym (number-stands 4 (length (encode 64 i.xs)) (body_of ed i) _ places.sizes x (at-cx ed i places.types places.counts places.lens places.sizes types-place counts-place lens-place sizes-place));
        y_at = sym (number-stands 4 (length (encode 64 i.ys)) (body_of ed i) _ (places.sizes + 4) y (at-cy ed i places.types places.counts places.lens places.sizes types-place counts-place lens-place sizes-place));
        exact = sym (body-size ed i places refl q.even (length (encode 64 i.xs)) (length (encode 64 i.ys)) refl refl);
        form = subst (λ (b : Bounds). box_ok (length i.xs) b ≡ true) (sym bounds) (box-form i.xs i.ys s);
        boxed = ap floats_of (sym bounds);
      }

  -- the body says its head
  pub body-head : head_of ed (body_of ed i) ≡ ok (head_for ed i)
  body-head = is-head ed (body_of ed i) (head_for ed i) headed

  -- whose box is that of the vertices
  pub head-box : patterns (head_for ed i).stored ≡ box_of i.xs i.ys
  unfolding head_for
  head-box = floats-patterns (box_of i.xs i.ys) words (box-finite (length i.xs) (box_of i.xs i.ys) (box-form i.xs i.ys s))

  -- and it is no longer than a block's length may say
  pub body-long : length (body_of ed i) < 2 ^ 32
  unfolding head_for
  body-long = head-long ed (body_of ed i) (head_for ed i) headed x-few y-few

  -- so it is a page of a file
  pub page-says : Says ed (page_for ed i)
  unfolding page_for
  page-says = record { headed = body-head; long = body-long }

  -- ---- the contents

  registers-back : registers_of (head_for ed i) (body_of ed i) ≡ i.registers
  unfolding registers_of head_for layout_of each
  registers-back = numbers-stand 4 i.registers (body_of ed i) _ 38 (length i.registers) refl t.registers (at-registers ed i).1

  types-back : types_of (head_for ed i) (body_of ed i) ≡ i.types
  unfolding types_of head_for
  types-back =
      bytes-stand i.types (body_of ed i) _ places.types (length i.registers) (sym q.even.types_even)
      (at-types ed i places.types places.counts places.lens places.sizes types-place counts-place lens-place sizes-place).1

  counts-back : counts_of (head_for ed i) (body_of ed i) ≡ i.counts
  unfolding counts_of head_for
  counts-back =
      numbers-stand 2 i.counts (body_of ed i) _ places.counts (length i.registers) (sym q.even.counts_even) t.counts
      (at-part-counts ed i places.types places.counts places.lens places.sizes types-place counts-place lens-place sizes-place).1

  lens-back : lens_of (head_for ed i) (body_of ed i) ≡ i.lens
  unfolding lens_of head_for
  lens-back =
      numbers-stand 2 i.lens (body_of ed i) _ places.lens (length i.lens) refl t.lens
      (at-lens ed i places.types places.counts places.lens places.sizes types-place counts-place lens-place sizes-place).1

  x-back : x_part (head_for ed i) (body_of ed i) ≡ encode 64 i.xs
  unfolding x_part head_for
  x-back =
      bytes-stand (encode 64 i.xs) (body_of ed i) _ places.columns (length (encode 64 i.xs)) refl
      (ap (λ (n : ℕ). drop n (body_of ed i)) (columns-at ed (length i.registers) (length i.lens))
      ∙ at_x ed i places.types places.counts places.lens places.sizes types-place counts-place lens-place sizes-place)

  y-back : y_part (head_for ed i) (body_of ed i) ≡ encode 64 i.ys
  unfolding y_part head_for
  y-back =
      bytes-stand (encode 64 i.ys) (body_of ed i) _ (places.columns + length (encode 64 i.xs)) (length (encode 64 i.ys)) refl
      (ap (λ (n : ℕ). drop (n + length (encode 64 i.xs)) (body_of ed i)) (columns-at ed (length i.registers) (length i.lens))
      ∙ at_y ed i places.types places.counts places.lens places.sizes types-place counts-place lens-place sizes-place)

  vertices-back : vertices_of (head_for ed i) (body_of ed i) ≡ ok (record { xs = i.xs; ys = i.ys })
  unfolding vertices_of
  vertices-back =
      let few : 64 < 256 = omega arith in
      let dx : decode_of 64 (x_part (head_for ed i) (body_of ed i)) (head_for ed i).v ≡ ok i.xs =
      ap₂ (λ (l : List ℕ) (n : ℕ). decode_of 64 l n) x-back (head-vertices ed i) ∙ decodes-written 64 i.xs few t.xs in
      let dy : decode_of 64 (y_part (head_for ed i) (body_of ed i)) (head_for ed i).v ≡ ok i.ys =
      ap₂ (λ (l : List ℕ) (n : ℕ). decode_of 64 l n) y-back (head-vertices ed i ∙ sym s.same) ∙ decodes-written 64 i.ys few t.ys in
      on_value _ _ i.xs (marked-value (on_column Axis.x) i.xs dx) ∙ on_value _ _ i.ys (marked-value (on_column Axis.y) i.ys dy)

  box-passes : box_rule (patterns (head_for ed i).stored) i.xs i.ys ≡ ok tt
  unfolding box_rule box_holds
  box-passes = rule-holds _ table.box (rw head-box (either_true (not (ltb 0 (length i.xs))) _ (same-box-refl (box_of i.xs i.ys))))
    where
      either_true : (a b : Bool) → b ≡ true → (a || b) ≡ true
      either_true true b e = refl
      either_true false b e = e

  -- the body has the contents that were handed in
  pub body-contents : contents_of (head_for ed i) (body_of ed i) ≡ ok (registered i.registers (outlines i))
  unfolding contents_of
  body-contents =
      let parts : parts_rule i.types i.counts i.lens (head_for ed i).v ≡ ok tt = ap (parts_rule i.types i.counts i.lens) (head-vertices ed i) ∙ q.parts in
      rw (types-back, counts-back, lens-back, registers-back)
      (on_value _ _ tt parts
      ∙ on_value _ _ (record { xs = i.xs; ys = i.ys }) vertices-back
      ∙ on_value _ _ tt q.outlined
      ∙ on_value _ _ tt box-passes)

  -- and so has the page of a file
  pub page-contents : contents_of (page_for ed i).head (page_for ed i).body ≡ ok (registered i.registers (outlines i))
  unfolding page_for
  page-contents = body-contents
