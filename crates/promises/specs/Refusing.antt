-- What is so of every refusal that a service can give. Assumes nothing.
use Rattle.std.specs.Prelude.{◌≡◌}
use Rattle.answer.specs.declared.Refusal.{Refusal}
use Rattle.answer.specs.Outcome.{Out, refused}

-- whatever refusal an outcome is, it is such a one
pub record Refuses {A : Type 0} (Such : Refusal → Type 0) (o : Out A) : Type 0 where
  pub such : (w : Refusal) → o ≡ refused w → Such w
