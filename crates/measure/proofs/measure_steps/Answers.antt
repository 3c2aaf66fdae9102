-- `measure::measure_steps` gives the sum of the run's values. The invariant: the sum so far and that of the values still to come make it.
-- Assumes nothing.
use Rattle.std.proofs.Common.{◌≡◌, ℕ, ◌+◌, ◌-◌, ◌%◌, ◌^◌, ◌≤◌, List, refl, sym, ap, ◌∙◌, arith}
use Rattle.column.specs.declared.Position.{Position}
use Rattle.step.specs.declared.Answer.{Answer}
use Rattle.step.specs.declared.Answer.TheVariants.{Value}
use Rattle.step.specs.Step.{position, step_of, answer_with}
use Rattle.measure.specs.Sum.{sum_of}
use Rattle.measure.proofs.Stepping.{given, given-none, given-many, sum-zero, sum-start, sum-none, sum_more, sum-end, sum-refused}
use Rattle.measure.proofs.measure_steps.Goals as goal

-- one value more: what is to come after it, of all that was to come
more : (s : List ℕ) (n i : ℕ) (p : Position) (sum : ℕ) (a : Answer) → a ≡ answer_with p (step_of 64 s n p) → (v : ℕ) (q : Position) → a ≡ Value v q → i ≤ n → (next all : ℕ)
    → next ≡ (sum + v) % 2 ^ 64 → all ≡ (sum + sum_of (given s n (n + 1 - i) p)) % 2 ^ 64 → all ≡ (next + sum_of (given s n (n + 1 - (i + 1)) q)) % 2 ^ 64
more s n i p sum a e v q k h next all x y =
    let fewer : n + 1 - i - 1 ≡ n + 1 - (i + 1) = omega arith in
    y
    ∙ sum_more s n (n + 1 - i) p sum a e v q (omega arith) k
    ∙ ap (λ (left : ℕ). ((sum + v) % 2 ^ 64 + sum_of (given s n left q)) % 2 ^ 64) fewer
    ∙ ap (λ (m : ℕ). (m + sum_of (given s n (n + 1 - (i + 1)) q)) % 2 ^ 64) (sym x)

pub returns-then-n-gt-MOST_VERTICES : goal.returns-then-n-gt-MOST_VERTICES
returns-then-n-gt-MOST_VERTICES c = let a = c.args in sum-zero _ (given-many a.s.now a.n (a.n + 1) (position 0 0 0 0) c.if-n-gt-MOST_VERTICES.true)

pub loop-init : goal.loop-init
loop-init c =
    let a = c.args in
    let all : a.n + 1 ≡ a.n + 1 - 0 = omega arith in
    (omega arith, sum-start (given a.s.now a.n (a.n + 1) (position 0 0 0 0)) ∙ ap (λ (left : ℕ). (0 + sum_of (given a.s.now a.n left (position 0 0 0 0))) % 2 ^ 64) all)

pub returns-in-End : goal.returns-in-End
returns-in-End c =
    let l = c.loop in
    sum-end c.args.s.now c.args.n (c.args.n + 1 - l.counter) l.p l.sum c.step-a.result c.step-a.ensures _ (omega arith) c.in-End.is ∙ sym l.invariant.1

pub returns-in-Refused : goal.returns-in-Refused
returns-in-Refused c =
    let l = c.loop in
    sum-refused c.args.s.now c.args.n (c.args.n + 1 - l.counter) l.p l.sum c.step-a.result c.step-a.ensures _ _ (omega arith) c.in-Refused.is ∙ sym l.invariant.1

pub loop-preserved : goal.loop-preserved
loop-preserved c =
    let l = c.loop in
    let n = c.step-a in (
      omega arith,
      more c.args.s.now c.args.n l.counter l.p l.sum n.result n.ensures c.in-Value.v c.in-Value.q c.in-Value.is (omega arith) _ _ refl l.invariant.1,
    )

pub returns-in-Value : goal.returns-in-Value
returns-in-Value c =
    let l = c.loop in
    let n = c.step-a in
    let none : c.args.n + 1 - (l.counter + 1) ≡ 0 = omega arith in
    sum-none (given c.args.s.now c.args.n (c.args.n + 1 - (l.counter + 1)) c.in-Value.q) _ (omega arith)
    (given-none c.args.s.now c.args.n (c.args.n + 1 - (l.counter + 1)) c.in-Value.q none)
    ∙ sym (more c.args.s.now c.args.n l.counter l.p l.sum n.result n.ensures c.in-Value.v c.in-Value.q c.in-Value.is (omega arith) _ _ refl l.invariant.1)
