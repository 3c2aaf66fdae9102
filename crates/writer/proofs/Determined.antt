-- What is determined: two answers and two buffers that meet the contract of one step are the same. Assumes nothing.
use Prim.Native.Nat.{ℕ}
use mathlib.Core.Path.{◌≡◌, sym, ap₂, ◌∙◌}
use mathlib.Core.List.{List}
use Rattle.answer.specs.Outcome.{Out}
use Rattle.writer.specs.declared.Writer.{Writer}
use Rattle.writer.specs.declared.Stepped.{Stepped}
use Rattle.writer.specs.State.{Added, Steps}

abbrev answer : Writer → Out (Unit {0}) → Stepped
answer w v = record { writer = w; verdict = v }

pub determined : {o : Out Added} {st : Writer} {d : List ℕ} {r r' : Stepped} {e e' : List ℕ} → Steps o st d r e → Steps o st d r' e' → (r ≡ r') × (e ≡ e')
determined p q = (ap₂ answer (p.state ∙ sym q.state) (p.verdict ∙ sym q.verdict), p.buffer ∙ sym q.buffer)
