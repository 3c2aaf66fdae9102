-- With a value given, the last word of the position is that value: each rule of the reader's call keeps it so. Assumes nothing.
use Prim.Native.Nat.{ℕ}
use mathlib.Core.Path.{◌≡◌, refl, subst}
use mathlib.Core.Bool.{Bool, true, false, cond}
use mathlib.Core.List.{List}
use lib.Dec.{leb, eqb}
use Rattle.answer.specs.declared.Refusal.{Refusal}
use Rattle.answer.specs.Outcome.{Out, refused, ok, need}
use Rattle.answer.proofs.Outcomes.{on-ok}
use Rattle.column.specs.declared.Position.{Position}
use Rattle.column.specs.Read.{end_rules}
use Rattle.step.specs.Step.{ValueOrEnd, value, end, first_call, later_call, step_of}
use Rattle.viewer.specs.Four.{four_rule, position_of}
use Rattle.viewer.specs.Calls.{step_call}

unfoldable Lasts : Out ValueOrEnd → Type 0
Lasts (refused w) = Unit {0}
Lasts (ok (value v q)) = q.last ≡ v
Lasts (ok end) = Unit {0}

lasts-value : (v : ℕ) (q : Position) → q.last ≡ v → Lasts (ok (value v q))
unfolding Lasts
lasts-value v q e = e

value-lasts : (v : ℕ) (q : Position) → Lasts (ok (value v q)) → q.last ≡ v
unfolding Lasts
value-lasts v q e = e

lasts-need : (t : Bool) (w : Refusal) (x : Out ValueOrEnd) → Lasts x → Lasts (need t w x)
unfolding Lasts need
lasts-need true w x h = h
lasts-need false w x h = tt

lasts-ending : (s : List ℕ) (n at : ℕ) → Lasts (end_rules s n at (ok end))
unfolding Lasts end_rules
lasts-ending s n at = lasts-need _ _ (need _ _ (ok end)) (lasts-need _ _ (ok end) tt)

lasts-either : (t : Bool) (x y : Out ValueOrEnd) → Lasts x → Lasts y → Lasts (cond t x y)
lasts-either true x y h k = h
lasts-either false x y h k = k

lasts-first : (P : ℕ) (s : List ℕ) (n : ℕ) → Lasts (first_call P s n)
unfolding first_call
lasts-first P s n = lasts-either (eqb n 0) _ _ (lasts-ending s 0 0) (lasts-need _ _ _ (lasts-need _ _ _ (lasts-need _ _ _ (lasts-value _ _ refl))))

lasts-later : (P : ℕ) (s : List ℕ) (n : ℕ) (p : Position) → Lasts (later_call P s n p)
unfolding later_call
lasts-later P s n p = lasts-need _ _ _ (lasts-need _ _ _ (lasts-either (leb n p.given) _ _ (lasts-ending s n p.at) (lasts-need _ _ _ (lasts-need _ _ _ (lasts-value _ _ refl)))))

lasts-next : (P : ℕ) (s : List ℕ) (n : ℕ) (p : Position) → Lasts (step_of P s n p)
unfolding step_of
lasts-next P s n p = lasts-need _ _ _ (lasts-either (eqb p.given 0) _ _ (lasts-first P s n) (lasts-later P s n p))

pub value-last : (s : List ℕ) (n : ℕ) (ws : List ℕ) (v : ℕ) (q : Position) → step_call s n ws ≡ ok (value v q) → q.last ≡ v
unfolding step_call
value-last s n ws v q e = let x = on-ok (four_rule ws) _ (value v q) e in value-lasts v q (subst Lasts x.2 (lasts-next 64 s n (position_of ws)))
