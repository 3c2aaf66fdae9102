-- A call that fills a scratch of the caller's own: for inner walks; no service speaks of it. Assumes nothing.
use Rattle.std.specs.Prelude.{ℕ, ◌≡◌, List}
use Rattle.answer.specs.Outcome.{Out, ok}
use Rattle.answer.specs.Rule.{passed}

-- it says the outcome's verdict, and where that holds the scratch is the outcome's value
pub record Scratched (o : Out (List ℕ)) (says : Out (Unit {0})) (left : List ℕ) : Type 0 where
  pub verdict : says ≡ passed o
  pub value : says ≡ ok tt → o ≡ ok left
