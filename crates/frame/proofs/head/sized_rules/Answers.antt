-- `sized_rules` makes the tests of `sized_head`, one after the other. Assumes nothing.
use Prim.Native.Nat.{◌+◌}
use mathlib.Core.Path.{◌≡◌, refl, sym, ◌∙◌}
use native.Mathlib.Omega.{arith}
use Rattle.answer.specs.Table.{lengths, box_form}
use Rattle.answer.proofs.Rules.{passed-because, rule-passed}
use Rattle.frame.proofs.Layouts.{columns-at}
use Rattle.frame.proofs.Heads.{sized-short, sized-length, sized-box, sized-good}
use Rattle.frame.proofs.head.sized_rules.Goals.{After-layout_of-layout}
use Rattle.frame.proofs.head.sized_rules.Goals as goal

-- the columns begin right behind their sizes
behind : (c : After-layout_of-layout) → c.layout_of-layout.result.columns ≡ c.layout_of-layout.result.sizes + 8
behind c = rw c.layout_of-layout.ensures (columns-at c.args.edition c.args.g c.args.p)

pub returns-then-b-columns : goal.returns-then-b-columns
returns-then-b-columns c = passed-because lengths _ c.because.ensures (sized-short _ _ _ _ _ _ (sym c.layout_of-layout.ensures) c.if-b-columns.true)

pub u32_at-cx-requires : goal.u32_at-cx-requires
u32_at-cx-requires c = omega (arith, behind (goal.at.u32_at-cx-requires c).After-layout_of-layout)

pub overflow_add-sizes : goal.overflow_add-sizes
overflow_add-sizes c = omega (arith, behind (goal.at.overflow_add-sizes c).After-layout_of-layout)

pub u32_at-cy-requires : goal.u32_at-cy-requires
u32_at-cy-requires c = omega (arith, behind (goal.at.u32_at-cy-requires c).After-layout_of-layout)

pub returns-then-b-columns-2 : goal.returns-then-b-columns-2
returns-then-b-columns-2 c =
    passed-because lengths _ c.because-then-b-columns-2.ensures
    (sized-length _ _ _ _ _ _ (sym c.layout_of-layout.ensures) c.if-b-columns.false _ _
    (sym c.u32_at-cx.ensures.0) (sym c.u32_at-cy.ensures.0) c.if-b-columns-2.true)

pub returns : goal.returns
returns c =
    let h = c.if-b-columns.false in
    c.rule.ensures
    ∙ rule-passed _ box_form _
    (λ t. (
      _,
      sized-good _ _ _ _ _ _ (sym c.layout_of-layout.ensures) h _ _
          (sym c.u32_at-cx.ensures.0) (sym c.u32_at-cy.ensures.0) (omega (arith, c.if-b-columns-2.false, h)) _ (sym c.box_ok.ensures ∙ t) refl,
    ))
    (λ f. sized-box _ _ _ _ _ _ (sym c.layout_of-layout.ensures) h _ _
    (sym c.u32_at-cx.ensures.0) (sym c.u32_at-cy.ensures.0) (omega (arith, c.if-b-columns-2.false, h)) (sym c.box_ok.ensures ∙ f))
