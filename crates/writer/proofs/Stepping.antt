-- A step, by its outcome. Assumes nothing.
use Prim.Native.Nat.{ℕ}
use mathlib.Core.Path.{◌≡◌}
use mathlib.Core.List.{List}
use lib.Seq.{sets}
use Rattle.answer.specs.declared.Refusal.{Refusal}
use Rattle.answer.specs.Outcome.{Out, refused, ok}
use Rattle.answer.proofs.Rules.{passed_ok, passed-refused}
use Rattle.writer.specs.declared.Writer.{Writer}
use Rattle.writer.specs.State.{Added, state_after, buffer_after, Steps}

module _ {o : Out Added} {st : Writer} {d : List ℕ} where
  -- a refusal says so, and state and buffer are as they came
  pub steps-refused : (w : Refusal) → o ≡ refused w → Steps o st d (record { writer = st; verdict = refused w }) d
  unfolding state_after buffer_after
  steps-refused w e = record { verdict = passed-refused w e; state = rw e; buffer = rw e }

  -- a step that is taken hands back the next state, and its bytes stand from their place on
  pub steps-ok : (a : Added) (left : List ℕ) → o ≡ ok a → left ≡ sets d a.from a.bytes → Steps o st d (record { writer = a.next; verdict = ok tt }) left
  unfolding state_after buffer_after
  steps-ok a left e q = record { verdict = passed_ok a e; state = rw e; buffer = rw e q }
