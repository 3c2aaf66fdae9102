-- `reader::first` gives the first value, or its refusal, one law for each return. Assumes nothing.
use mathlib.Core.Path.{sym, ap, ap₂, ◌∙◌}
use Prim.Native.Nat.{ℕ}
use native.Mathlib.Omega.{arith}
use Rattle.answer.specs.Table as Table
use Rattle.answer.specs.Refusal.{because}
use Rattle.step.specs.Step.{answer_with, position}
use Rattle.step.specs.declared.Answer.TheVariants.{Value}
use Rattle.step.proofs.Calls.{said-refused, said-value, first-none, first-empty, first-wide, first_short, first-value}
use Rattle.step.proofs.first.Goals as goal

pub returns-then-n-eq0 : goal.returns-then-n-eq0
returns-then-n-eq0 c =
    let a = c.args in
    c.end_at.ensures ∙ sym (ap (answer_with a.p) (first-none 64 a.s.now a.n c.if-n-eq0.true))

pub returns-then-len-eq0 : goal.returns-then-len-eq0
returns-then-len-eq0 c =
    let a = c.args in
    c.refused.ensures ∙ said-refused a.p (because Table.bits) (first-empty 64 a.s.now a.n c.if-n-eq0.false c.if-len-eq0.true)

pub returns-then-w-gt64 : goal.returns-then-w-gt64
returns-then-w-gt64 c =
    let if1 = c.if-n-eq0 in
    let if2 = c.if-len-eq0 in
    let a = c.args in
    c.refused-then-w-gt64.ensures ∙ said-refused a.p (because Table.width) (first-wide 64 a.s.now a.n if1.false if2.false (omega (arith, c.wide-w.ensures, c.if-w-gt64.true)))

pub returns-then-len-lt9 : goal.returns-then-len-lt9
returns-then-len-lt9 c =
    let if1 = c.if-n-eq0 in
    let if2 = c.if-len-eq0 in
    let a = c.args in
    c.refused-then-len-lt9.ensures ∙ said-refused a.p (because Table.bits)
    (first_short 64 a.s.now a.n if1.false if2.false (omega (arith, c.wide-w.ensures, c.if-w-gt64.false)) (omega (arith, c.if-len-lt9.true)))

pub returns : goal.returns
returns c =
    let if1 = c.if-n-eq0 in
    let if2 = c.if-len-eq0 in
    let a = c.args in
    ap₂ (λ (v w : ℕ). Value v (position 72 1 w v)) c.window-v.ensures c.wide-w.ensures
    ∙ said-value a.p _ _ (first-value 64 a.s.now a.n if1.false if2.false (omega (arith, c.wide-w.ensures, c.if-w-gt64.false)) (omega (arith, c.if-len-lt9.false)))
