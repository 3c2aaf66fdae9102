-- A rule: a test that must hold, refused by its number, with nothing more to say where it holds. Assumes nothing.
use Rattle.std.specs.Prelude.{ℕ, Bool}
use Rattle.answer.specs.Refusal.{because}
use Rattle.answer.specs.Outcome.{Out, ok, need, on}

-- what a rule comes to
unfoldable pub rule : Bool → ℕ → Out (Unit {0})
rule holds number = need holds (because number) (ok tt)

-- an outcome as a rule: its refusal, or nothing more to say
unfoldable pub passed : {A : Type 0} → Out A → Out (Unit {0})
passed o = on o (λ a. ok tt)
