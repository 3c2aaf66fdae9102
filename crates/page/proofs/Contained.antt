-- The contents of a page that every rule lets pass: they are cut from its lists, and as many as the head says. Assumes nothing.
use mathlib.Core.Path.{◌≡◌, refl, sym, ap, ◌∙◌}
use mathlib.Core.Bool.{true}
use mathlib.Core.List.{List, [], ◌∷◌, map}
use Prim.Native.Nat.{ℕ}
use native.Mathlib.Omega.{arith}
use lib.ListN.{length}
use Rattle.answer.specs.Table as table
use Rattle.answer.specs.Outcome.{ok}
use Rattle.answer.proofs.Outcomes.{ok-inj, on-ok}
use Rattle.answer.proofs.Rules.{rule-ok}
use Rattle.le.proofs.Runs.{length-numbers}
use Rattle.extent.specs.Boxes.{patterns}
use Rattle.types.specs.Parts.{parts_hold, parts_rule}
use Rattle.types.proofs.Agreeing.{agree-even}
use Rattle.types.proofs.Passed.{parts-passed, hold-agree}
use Rattle.shape.specs.Outline.{Outline, Shape, outlines_of, registered}
use Rattle.shape.specs.Rules.{box_holds, box_rule, outline_rules}
use Rattle.shape.proofs.Outlines.{outlines-length, shapes-length}
use Rattle.frame.specs.declared.head.Head.{Head}
use Rattle.page.specs.Contents.{registers_of, types_of, counts_of, lens_of, Vertices, vertices_of, contents_of}
use Rattle.page.specs.Loaded.{Loaded}
use Rattle.page.proofs.Vertices.{vertices-long}

-- ---- what they are

-- the shapes of a page that every rule let pass are cut from its lists
pub record Contained (h : Head) (b : List ℕ) (ss : List Shape) : Type 0 where
  pub xs : List ℕ
  pub ys : List ℕ
  pub vertices : vertices_of h b ≡ ok (record { xs = xs; ys = ys })
  pub parts : parts_hold (types_of h b) (counts_of h b) (lens_of h b) h.v ≡ true
  pub box : box_holds (patterns h.stored) xs ys ≡ true
  pub shapes : registered (registers_of h b) (outlines_of (types_of h b) (counts_of h b) (lens_of h b) xs ys) ≡ ss

pub contents-contained : (h : Head) (b : List ℕ) (ss : List Shape) → contents_of h b ≡ ok ss → Contained h b ss
unfolding contents_of box_rule
contents-contained h b ss e =
    let p = on-ok (parts_rule (types_of h b) (counts_of h b) (lens_of h b) h.v) _ ss e in
    let v = on-ok (vertices_of h b) _ ss p.2 in
    let t : Vertices = v.0 in
    let o = on-ok (outline_rules (outlines_of (types_of h b) (counts_of h b) (lens_of h b) t.xs t.ys) t.xs t.ys) _ ss v.2 in
    let x = on-ok (box_rule (patterns h.stored) t.xs t.ys) _ ss o.2 in
    record {
      xs = t.xs;
      ys = t.ys;
      vertices = v.1;
      parts = parts-passed (types_of h b) (counts_of h b) (lens_of h b) h.v p.0 p.1;
      box = rule-ok (box_holds (patterns h.stored) t.xs t.ys) table.box x.0 x.1;
      shapes = ok-inj x.2;
    }

-- ---- how many there are

-- as many counts and registers as shapes, and as many lengths as parts
module _ (h : Head) (b : List ℕ) where
  pub counts-long : length (counts_of h b) ≡ h.g
  unfolding counts_of
  counts-long = length-numbers 2 2 h.g b h.layout.counts

  pub lens-long : length (lens_of h b) ≡ h.p
  unfolding lens_of
  lens-long = length-numbers 2 2 h.p b h.layout.lens

  registers_long : length (registers_of h b) ≡ h.g
  unfolding registers_of
  registers_long = length-numbers h.layout.each 4 h.g b h.layout.registers

-- shapes without their registers
outlines-back : (rs : List ℕ) (os : List Outline) → length rs ≡ length os → map (λ (s : Shape). s.outline) (registered rs os) ≡ os
unfolding registered
outlines-back [] [] e = refl
outlines-back [] (o ∷ os) e = absurd (omega arith)
outlines-back (r ∷ rs) [] e = refl
outlines-back (r ∷ rs) (o ∷ os) e = ap (λ (l : List Outline). o ∷ l) (outlines-back rs os (omega arith))

module _ (h : Head) (b xs ys : List ℕ) (q : parts_hold (types_of h b) (counts_of h b) (lens_of h b) h.v ≡ true) where
  abbrev os : List Outline
  os = outlines_of (types_of h b) (counts_of h b) (lens_of h b) xs ys

  -- outlines, and shapes
  pub outlines-long : length (outlines_of (types_of h b) (counts_of h b) (lens_of h b) xs ys) ≡ h.g
  outlines-long =
      let e = agree-even (types_of h b) (counts_of h b) (lens_of h b) (hold-agree (types_of h b) (counts_of h b) (lens_of h b) h.v q) in
      outlines-length (types_of h b) (counts_of h b) (lens_of h b) xs ys e ∙ e ∙ counts-long h b

  shapes-long : length (registered (registers_of h b) os) ≡ h.g
  shapes-long = shapes-length (registers_of h b) os (registers_long h b ∙ sym outlines-long) ∙ outlines-long

  pub shapes-outlines : map (λ (s : Shape). s.outline) (registered (registers_of h b) (outlines_of (types_of h b) (counts_of h b) (lens_of h b) xs ys))
      ≡ outlines_of (types_of h b) (counts_of h b) (lens_of h b) xs ys
  shapes-outlines = outlines-back (registers_of h b) os (registers_long h b ∙ sym outlines-long)

-- as many shapes as the head says
pub contents-long : (h : Head) (b : List ℕ) (ss : List Shape) → contents_of h b ≡ ok ss → length ss ≡ h.g
contents-long h b ss e = let c = contents-contained h b ss e in ap length (sym c.shapes) ∙ shapes-long h b c.xs c.ys c.parts

-- ---- as they are loaded

module _ (h : Head) (b counts lens xs ys : List ℕ) (y : Loaded h b counts lens xs ys) (types : List ℕ) (t : types ≡ types_of h b) where
  -- what a walk over the shapes counts on
  pub loaded-ready : (length types ≡ h.g) × (parts_hold types counts lens (length xs) ≡ true) × (length ys ≡ length xs)
  loaded-ready =
      let v = vertices-long h b xs ys y.vertices in
      let q : parts_hold types counts lens (length xs) ≡ true = rw (t, v.0) y.parts in
      let e = agree-even types counts lens (hold-agree types counts lens (length xs) q) in
      (e ∙ ap length y.counts_are ∙ counts-long h b, q, v.1 ∙ sym v.0)
