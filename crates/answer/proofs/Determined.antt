-- What is determined: two answers and two rooms that meet the contract of one call are the same. Assumes nothing.
use Prim.Native.Nat.{ℕ}
use mathlib.Core.Path.{◌≡◌, sym, ◌∙◌}
use mathlib.Core.List.{List}
use Rattle.answer.specs.Outcome.{Out, Fills}

pub determined : {o : Out (List ℕ)} {d : List ℕ} {r r' : Out ℕ} {e e' : List ℕ} → Fills o d r e → Fills o d r' e' → (r ≡ r') × (e ≡ e')
determined p q = (p.answer ∙ sym q.answer, p.room ∙ sym q.room)

-- two answers of one outcome are the same
pub answer-one : {A : Type 0} {o x y : Out A} → x ≡ o → y ≡ o → x ≡ y
answer-one p q = p ∙ sym q
