-- `reader::later` gives a later value, the end, or a refusal, one law for each return. Assumes nothing.
use mathlib.Core.Path.{sym, ap, ap₂, ◌∙◌}
use Prim.Native.Nat.{ℕ, ◌+◌}
use native.Mathlib.Omega.{arith}
use Rattle.answer.specs.Table as Table
use Rattle.answer.specs.Refusal.{because, at_value}
use Rattle.le.specs.Number.{number}
use Rattle.entry.specs.Entry.{size_at}
use Rattle.step.specs.Step.{answer_with, position, coming}
use Rattle.step.specs.declared.Answer.TheVariants.{Value}
use Rattle.step.proofs.Calls.{said-refused, said-value, later-wide, later-past, later-end, later-short, later-over, later-value, over_yes, over_no}
use Rattle.step.proofs.later.Goals as goal

pub returns-then-w-gt64 : goal.returns-then-w-gt64
returns-then-w-gt64 c =
    c.refused.ensures ∙ said-refused c.args.p (because Table.width) (later-wide 64 c.args.s.now c.args.n c.args.p c.if-w-gt64.true)

pub returns-then-len-whole_bytes : goal.returns-then-len-whole_bytes
returns-then-len-whole_bytes c =
    rw (c.refused_at.ensures, c.coming.ensures.0)
    (said-refused c.args.p (at_value (coming c.args.n c.args.p.given) (because Table.bits))
    (later-past 64 c.args.s.now c.args.n c.args.p c.if-w-gt64.false (omega (arith, c.whole_bytes.ensures, c.if-len-whole_bytes.true))))

pub returns-then-n-p : goal.returns-then-n-p
returns-then-n-p c =
    let if1 = c.if-w-gt64 in
    let whole-bytes = c.whole_bytes in
    c.end_at.ensures ∙ sym (ap (answer_with c.args.p) (later-end 64 c.args.s.now c.args.n c.args.p if1.false (omega (arith, whole-bytes.ensures, c.if-len-whole_bytes.false)) c.if-n-p.true))

pub returns-then-runs_over : goal.returns-then-runs_over
returns-then-runs_over c =
    let if1 = c.if-w-gt64 in
    let whole-bytes = c.whole_bytes in
    let if2 = c.if-len-whole_bytes in
    let if3 = c.if-n-p in
    let over = over_yes c.runs_over.result c.args.p.at (size_at 64 (number c.args.s.now) c.args.p.width c.args.p.at) c.runs_over.ensures c.if-runs_over.true in
    c.refused_at-then-runs_over.ensures ∙ said-refused c.args.p (at_value c.args.p.given (because Table.bits)) (later-over 64 c.args.s.now c.args.n c.args.p if1.false (omega (arith, whole-bytes.ensures, if2.false)) if3.false over)

pub entry_at-e-requires : goal.entry_at-e-requires
entry_at-e-requires c =
    let if1 = c.if-w-gt64 in
    let under = over_no c.runs_over.result c.args.p.at (size_at 64 (number c.args.s.now) c.args.p.width c.args.p.at) c.runs_over.ensures c.if-runs_over.false in
    (if1.false, c.marker-m.ensures, under)

pub returns-then-len-whole_bytes-2 : goal.returns-then-len-whole_bytes-2
returns-then-len-whole_bytes-2 c =
    let if1 = c.if-w-gt64 in
    let whole-bytes = c.whole_bytes in
    let if2 = c.if-len-whole_bytes in
    let if3 = c.if-n-p in
    let e = c.entry_at-e in
    c.refused_at-then-len-whole_bytes-2.ensures ∙ said-refused c.args.p (at_value c.args.p.given (because Table.bits))
    (later-short 64 c.args.s.now c.args.n c.args.p if1.false (omega (arith, whole-bytes.ensures, if2.false)) if3.false (omega (arith, e.ensures.1, c.whole_bytes-2.ensures, c.if-len-whole_bytes-2.true)))

pub returns : goal.returns
returns c =
    let if1 = c.if-w-gt64 in
    let whole-bytes = c.whole_bytes in
    let if2 = c.if-len-whole_bytes in
    let if3 = c.if-n-p in
    let runs-over = c.runs_over in
    let if4 = c.if-runs_over in
    let e = c.entry_at-e in
    let under = over_no runs-over.result c.args.p.at (size_at 64 (number c.args.s.now) c.args.p.width c.args.p.at) runs-over.ensures if4.false in
    ap₂ (λ (v k : ℕ). Value v (position k (c.args.p.given + 1) c.args.p.width v)) e.ensures.0 e.ensures.1
    ∙ said-value c.args.p _ _
    (later-value 64 c.args.s.now c.args.n c.args.p if1.false (omega (arith, whole-bytes.ensures, if2.false)) if3.false (omega (arith, e.ensures.1, c.whole_bytes-2.ensures, c.if-len-whole_bytes-2.false)) under)
