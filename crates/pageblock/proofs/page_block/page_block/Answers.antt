-- `pageblock::page_block::page_block` gives the outcome of a page's block: a rule's refusal, 2, or the bytes at the start of the room. Assumes nothing.
use Prim.Native.Nat.{ℕ}
use mathlib.Core.Path.{sym, ap, ◌∙◌}
use native.Mathlib.Omega.{arith}
use lib.Seq.{sets}
use Rattle.answer.proofs.Outcomes.{handed-on, fills-refused, fills-ok}
use Rattle.pageblock.specs.Body.{handed_of, page_bytes}
use Rattle.pageblock.specs.Ready.{Planned}
use Rattle.pageblock.proofs.Passing.{even-limits, rules-passed, passed-sound}
use Rattle.pageblock.proofs.Plans.{planned, plan-few, plan-size}
use Rattle.pageblock.proofs.Blocks.{block_refused, block_room, block-ok, put-start}
use Rattle.pageblock.proofs.page_block.page_block.Goals.{After-plan_of-plan}
use Rattle.pageblock.proofs.page_block.page_block.Goals as goal

pub returns-in_err-page_rules : goal.returns-in_err-page_rules
returns-in_err-page_rules c =
    rw (handed-on c.from_residual.ensures.1) (fills-refused _ (block_refused _ _ _ _ (sym c.page_rules.ensures ∙ c.in_err-page_rules.was)))

pub plan_of-plan-requires : goal.plan_of-plan-requires
plan_of-plan-requires c =
    let p = rules-passed _ _ (sym c.page_rules.ensures ∙ c.in_ok-page_rules.was) in
    let s = passed-sound _ p in
    let v = even-limits _ p.even in
    record { shapes = v.few; parts = omega (arith, v.parts, v.vertices); vertices = s.few; even = omega (arith, s.same, s.few) }

-- the plan is that of the page
plan_is : (c : After-plan_of-plan) → Planned (handed_of c.args.lists) c.plan_of-plan.result
plan_is c =
    let g = c.plan_of-plan.ensures in
    planned _ _ _ (rules-passed _ _ (sym c.page_rules.ensures ∙ c.in_ok-page_rules.was)) g.edition g.layout g.columns.0 g.columns.1 g.whole

pub overflow_add-size : goal.overflow_add-size
overflow_add-size c = omega (arith, plan-few _ _ (plan_is (goal.at.overflow_add-size c).After-plan_of-plan))

pub returns-then-room-size : goal.returns-then-room-size
returns-then-room-size c =
    let n = plan-size _ _ _ (plan_is (goal.at.returns-then-room-size c).After-plan_of-plan) c.plan_of-plan.ensures.edition in
    rw c.because.ensures (fills-refused _ (block_room _ _ _ (sym c.page_rules.ensures ∙ c.in_ok-page_rules.was) (omega (arith, n, c.if-room-size.true))))

pub put_page-requires : goal.put_page-requires
put_page-requires c = (plan_is (goal.at.put_page-requires c).After-plan_of-plan, c.if-room-size.false)

pub returns : goal.returns
returns c =
    let a = c.args in
    let i = handed_of a.lists in
    let e = c.plan_of-plan.ensures.edition in
    let n = plan-size i a.edition _ (plan_is (goal.at.returns c).After-plan_of-plan) e in
    fills-ok (page_bytes a.edition i) _ _ (block-ok a.edition i _ (sym c.page_rules.ensures ∙ c.in_ok-page_rules.was) (omega (arith, n, c.if-room-size.false))) n
    (put-start (page_bytes a.edition i) a.room.now _ _ n c.if-room-size.false (c.put_page.ensures ∙ ap (λ (x : ℕ). sets a.room.now 0 (page_bytes x i)) e))
