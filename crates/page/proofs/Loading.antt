-- A page's contents, by the ways through them; and where its head says that things stand. Assumes nothing.
use Prim.Native.Nat.{ℕ, ◌+◌, ◌*◌, ◌-◌, ◌≤◌}
use mathlib.Core.Path.{◌≡◌, refl, sym, ap₂, ◌∙◌}
use mathlib.Core.Bool.{true}
use mathlib.Core.List.{List}
use native.Mathlib.Omega.{arith}
use lib.ListN.{length, take, drop}
use Rattle.answer.specs.Table as table
use Rattle.answer.specs.Outcome.{Out, refused, ok, on}
use Rattle.answer.specs.declared.Refusal.{Refusal}
use Rattle.answer.proofs.Outcomes.{on-ok}
use Rattle.answer.proofs.Rules.{passed_ok, passed-refused, refused-passed, rule-ok}
use Rattle.le.specs.Number.{numbers_at, Bytes}
use Rattle.extent.specs.Boxes.{patterns, FiniteBox}
use Rattle.types.specs.Parts.{parts_hold, parts_rule}
use Rattle.types.proofs.Passed.{parts-passed}
use Rattle.frame.specs.declared.head.Head.{Head}
use Rattle.frame.specs.Layout.{layout_of}
use Rattle.frame.specs.Head.{head_of}
use Rattle.frame.proofs.Layouts.{columns-at}
use Rattle.frame.proofs.Heads.{head-is, head-limits, head-finite, head-patterns}
use Rattle.shape.specs.Outline.{Outline, outlines_of, registered}
use Rattle.shape.specs.Rules.{box_holds, box_rule, outline_rules}
use Rattle.page.specs.Contents.{registers_of, types_of, counts_of, lens_of, vertices_of, contents_of}
use Rattle.page.specs.Loaded.{Columns, Loaded, Loads}
use Rattle.answer.proofs.Orders.{on-refused, on_value, on-on, then-refused, then-holds}
use Rattle.shape.proofs.Ruled.{ruled-all}

-- ---- where things stand

-- the tables and the columns lie one behind the other in the body
pub record Stands (b : List ℕ) (h : Head) : Type 0 where
  pub types : h.layout.types + h.g ≤ length b
  pub counts : h.layout.counts + 2 * h.g ≤ length b
  pub lens : h.layout.lens + 2 * h.p ≤ length b
  pub exact : length b ≡ h.layout.columns + h.cx + h.cy
  pub few : h.v ≤ 2048

module _ (e g p : ℕ) where
  counts-after : (layout_of e g p).counts ≡ (layout_of e g p).types + g
  unfolding layout_of
  counts-after = refl

  lens-after : (layout_of e g p).lens ≡ (layout_of e g p).counts + 2 * g
  unfolding layout_of
  lens-after = refl

  sizes-after : (layout_of e g p).sizes ≡ (layout_of e g p).lens + 2 * p
  unfolding layout_of
  sizes-after = refl

pub head-stands : (e : ℕ) (b : List ℕ) (h : Head) → head_of e b ≡ ok h → Stands b h
head-stands e b h q =
    let d = head-is e b h q in
    let g = h.g in
    let p = h.p in
    let n : length b ≡ (layout_of e g p).columns + h.cx + h.cy = rw (← d.laid) d.exact in
    rw d.laid (record {
      types = omega (arith, n, counts-after e g p, lens-after e g p, sizes-after e g p, columns-at e g p);
      counts = omega (arith, n, lens-after e g p, sizes-after e g p, columns-at e g p);
      lens = omega (arith, n, sizes-after e g p, columns-at e g p);
      exact = n;
      few = (head-limits e b h d).vertices;
    })

pub head-box : (e : ℕ) (b : List ℕ) (h : Head) → Bytes b → head_of e b ≡ ok h → FiniteBox (patterns h.stored)
head-box e b h k q = let d = head-is e b h q in rw (head-patterns e b h d k) (head-finite e b h d)

-- ---- the ways through

-- the tables, as the code reads them
pub counts-read : (h : Head) (b : List ℕ) (n : ℕ) → n ≡ h.g → numbers_at 2 n b h.layout.counts ≡ counts_of h b
unfolding counts_of
counts-read h b n e = rw e

pub lens-read : (h : Head) (b : List ℕ) (n : ℕ) → n ≡ h.p → numbers_at 2 n b h.layout.lens ≡ lens_of h b
unfolding lens_of
lens-read h b n e = rw e

pub types-read : (h : Head) (b : List ℕ) (from to : ℕ) → from ≡ h.layout.types → to ≡ from + h.g → take (to - from) (drop from b) ≡ types_of h b
unfolding types_of
types-read h b from to d e =
    let z : to - from ≡ h.g = omega arith in
    ap₂ (λ (n at : ℕ). take n (drop at b)) z d

module _ (h : Head) (b counts lens xs ys types : List ℕ) (v : ℕ) (ec : counts ≡ counts_of h b) (el : lens ≡ lens_of h b) (et : types ≡ types_of h b)
    (ev : v ≡ h.v) where
  first : parts_rule types counts lens v ≡ parts_rule (types_of h b) (counts_of h b) (lens_of h b) h.v
  first = rw (← ec, ← el, ← et, ← ev)

  refused-loads : (w : Refusal) → contents_of h b ≡ refused w → Loads h b (refused w) counts lens xs ys
  refused-loads w e = record { verdict = passed-refused w e; lists = λ q. absurd (let z : ◌≡◌ {A = ℕ} 0 1 = cc in omega arith) }

  -- 11
  pub loads-parts : (w : Refusal) → refused w ≡ parts_rule types counts lens v → Loads h b (refused w) counts lens xs ys
  unfolding contents_of
  loads-parts w e = refused-loads w (then-refused (parts_rule (types_of h b) (counts_of h b) (lens_of h b) h.v) _ w (e ∙ first))

  module _ (pr : (ok tt) ≡ parts_rule types counts lens v) where
    -- 8, 9, 10 of a column
    pub loads-columns : (w : Refusal) → Columns h b (refused w) xs ys → Loads h b (refused w) counts lens xs ys
    unfolding contents_of
    loads-columns w c =
        refused-loads w
        (then-holds (parts_rule (types_of h b) (counts_of h b) (lens_of h b) h.v) _ (pr ∙ first)
        ∙ on-refused (vertices_of h b) _ w (refused-passed (vertices_of h b) w c.verdict))

    pub loads-holds : parts_hold types counts lens v ≡ true
    loads-holds = parts-passed types counts lens v tt (sym pr)

    -- the rules over the shapes
    module _ (c : Columns h b (ok tt) xs ys) where
      abbrev pub os : List Outline
      os = outlines_of types counts lens xs ys

      abbrev pub rules : Out (Unit {0})
      rules = on (outline_rules os xs ys) (λ _. box_rule (patterns h.stored) xs ys)

      contents : contents_of h b ≡ on rules (λ _. ok (registered (registers_of h b) os))
      unfolding contents_of
      contents =
          then-holds (parts_rule (types_of h b) (counts_of h b) (lens_of h b) h.v) _ (pr ∙ first)
          ∙ on_value (vertices_of h b) _ (record { xs = xs; ys = ys }) (c.vertices refl)
          ∙ rw (ec, el, et) (sym (on-on (outline_rules (outlines_of (types_of h b) (counts_of h b) (lens_of h b) xs ys) xs ys) _ _))

      held : rules ≡ ok tt → Loaded h b counts lens xs ys
      unfolding box_rule
      held e =
          let o = on-ok (outline_rules os xs ys) _ tt e in
          let f = ruled-all os xs ys o.1 in
          record {
            counts_are = ec;
            lens_are = el;
            vertices = c.vertices refl;
            parts = rw (← et, ← ev) loads-holds;
            finite_x = f.0;
            finite_y = f.1;
            box = rule-ok (box_holds (patterns h.stored) xs ys) table.box tt o.2;
            shapes = contents ∙ on_value rules _ tt e ∙ rw (← et);
          }

      pub loads-rules : (r : Out (Unit {0})) → r ≡ rules → Loads h b r counts lens xs ys
      loads-rules (refused w) e = refused-loads w (contents ∙ then-refused rules _ w e)
      loads-rules (ok tt) e =
          let k : rules ≡ ok tt = sym e in
          record { verdict = passed_ok _ (contents ∙ on_value rules _ tt k); lists = λ _. held k }
