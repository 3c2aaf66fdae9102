-- `page::contents::load` reads the tables and the columns of a page and judges them in order: a law for each return. Assumes nothing.
use mathlib.Core.Path.{refl, sym, ◌∙◌}
use native.Mathlib.Omega.{arith}
use Rattle.answer.proofs.Outcomes.{handed-on}
use Rattle.page.proofs.Vertices.{vertices-long}
use Rattle.page.proofs.Loading.{head-stands, head-box, counts-read, lens-read, types-read, loads-parts, loads-columns, loads-holds, loads-rules}
use Rattle.page.proofs.contents.load.Goals as goal

pub read_u16s-requires : goal.read_u16s-requires
read_u16s-requires c =
    let h = c.args.h in
    let b = c.args.b.now in
    let l = head-stands c.requires.by_index.0 b h c.requires.by_index.1 in
    omega (arith, l.counts, c.requires.scratch_for.for_counts)

pub read_u16s-requires-2 : goal.read_u16s-requires-2
read_u16s-requires-2 c =
    let h = c.args.h in
    let b = c.args.b.now in
    let l = head-stands c.requires.by_index.0 b h c.requires.by_index.1 in
    omega (arith, l.lens, c.requires.scratch_for.for_lens)

pub overflow_add-to : goal.overflow_add-to
overflow_add-to c =
    let h = c.args.h in
    let b = c.args.b.now in
    let l = head-stands c.requires.by_index.0 b h c.requires.by_index.1 in
    omega (arith, l.types)

pub slice_bounds-parts_rule-end : goal.slice_bounds-parts_rule-end
slice_bounds-parts_rule-end c =
    let h = c.args.h in
    let b = c.args.b.now in
    let l = head-stands c.requires.by_index.0 b h c.requires.by_index.1 in
    omega (arith, l.types)

pub returns-in_err-parts_rule : goal.returns-in_err-parts_rule
returns-in_err-parts_rule c =
    let h = c.args.h in
    let b = c.args.b.now in
    let ec = c.read_u16s.ensures ∙ counts-read h b _ c.requires.scratch_for.for_counts in
    let el = c.read_u16s-2.ensures ∙ lens-read h b _ c.requires.scratch_for.for_lens in
    let et = types-read h b _ _ refl refl in
    rw (handed-on c.from_residual.ensures.1) (loads-parts h b _ _ _ _ _ h.v ec el et refl _ (sym c.in_err-parts_rule.was ∙ c.parts_rule.ensures))

pub columns-requires : goal.columns-requires
columns-requires c =
    let h = c.args.h in
    let b = c.args.b.now in
    let l = head-stands c.requires.by_index.0 b h c.requires.by_index.1 in
    record { b_len = l.exact; v_le_most_vertices = l.few; xs_len = (c.requires.scratch_for.for_xs, c.requires.scratch_for.for_ys) }

pub returns-in_err-columns : goal.returns-in_err-columns
returns-in_err-columns c =
    let h = c.args.h in
    let b = c.args.b.now in
    let ec = c.read_u16s.ensures ∙ counts-read h b _ c.requires.scratch_for.for_counts in
    let el = c.read_u16s-2.ensures ∙ lens-read h b _ c.requires.scratch_for.for_lens in
    let et = types-read h b _ _ refl refl in
    rw (handed-on c.from_residual-in_err-columns.ensures.1)
    (loads-columns h b _ _ _ _ _ h.v ec el et refl (sym c.in_ok-parts_rule.was ∙ c.parts_rule.ensures) _ (rw c.in_err-columns.was at c.columns.ensures))

pub slice_bounds-lists-end : goal.slice_bounds-lists-end
slice_bounds-lists-end c =
    let h = c.args.h in
    let b = c.args.b.now in
    let l = head-stands c.requires.by_index.0 b h c.requires.by_index.1 in
    omega (arith, l.types)

pub invariant_of-lists : goal.invariant_of-lists
invariant_of-lists c =
    let h = c.args.h in
    let b = c.args.b.now in
    let l = head-stands c.requires.by_index.0 b h c.requires.by_index.1 in
    let ec = c.read_u16s.ensures ∙ counts-read h b _ c.requires.scratch_for.for_counts in
    let el = c.read_u16s-2.ensures ∙ lens-read h b _ c.requires.scratch_for.for_lens in
    let et = types-read h b _ _ refl refl in
    let k = rw c.in_ok-columns.was at c.columns.ensures in
    let n = vertices-long h b _ _ (k.vertices refl) in record {
      parted = record {
        parts = rw n.0 (loads-holds h b _ _ b b _ h.v ec el et refl (sym c.in_ok-parts_rule.was ∙ c.parts_rule.ensures));
        same = n.1 ∙ sym n.0;
        few = omega (arith, n.0, l.few);
      };
    }

pub vertex_rules-requires : goal.vertex_rules-requires
vertex_rules-requires c =
    head-box c.requires.by_index.0 c.args.b.now c.args.h (λ i. (c.shared_slice_known-1.given i).fits) c.requires.by_index.1

pub returns : goal.returns
returns c =
    let h = c.args.h in
    let b = c.args.b.now in
    let ec = c.read_u16s.ensures ∙ counts-read h b _ c.requires.scratch_for.for_counts in
    let el = c.read_u16s-2.ensures ∙ lens-read h b _ c.requires.scratch_for.for_lens in
    let et = types-read h b _ _ refl refl in
    loads-rules h b _ _ _ _ _ h.v ec el et refl (sym c.in_ok-parts_rule.was ∙ c.parts_rule.ensures) (rw c.in_ok-columns.was at c.columns.ensures) c.vertex_rules.result c.vertex_rules.ensures
