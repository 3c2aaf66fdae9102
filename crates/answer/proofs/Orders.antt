-- One rule after another: what the answer of the first says of both. Assumes nothing.
use mathlib.Core.Path.{◌≡◌, refl, sym, ap}
use Rattle.answer.specs.Outcome.{Out, refused, ok, on}
use Rattle.answer.specs.declared.Refusal.{Refusal}
use Rattle.answer.proofs.Outcomes.{never, refused-inj}

module _ {A B : Type 0} (o : Out A) (f : A → Out B) where
  -- what is refused first is refused
  pub on-refused : (w : Refusal) → o ≡ refused w → on o f ≡ refused w
  unfolding on
  on-refused w e = rw e

  -- what holds first leaves the rest
  pub on_value : (a : A) → o ≡ ok a → on o f ≡ f a
  unfolding on
  on_value a e = rw e

-- and back: where something is only made of its value, what is refused was refused first
pub on-stopped : {A B : Type 0} (o : Out A) (f : A → B) (w : Refusal) → on o (λ a. ok (f a)) ≡ refused w → o ≡ refused w
unfolding on
on-stopped (refused x) f w e = ap refused (refused-inj e)
on-stopped (ok a) f w e = absurd (never (sym e))

-- one after another, and a third after both
pub on-on : {A B C : Type 0} (o : Out A) (f : A → Out B) (g : B → Out C) → on (on o f) g ≡ on o (λ a. on (f a) g)
unfolding on
on-on (refused w) f g = refl
on-on (ok a) f g = refl

-- the same, where what a rule says stands first
module _ {B : Type 0} (o : Out (Unit {0})) (f : Unit {0} → Out B) where
  pub then-refused : (w : Refusal) → refused w ≡ o → on o f ≡ refused w
  then-refused w e = on-refused o f w (sym e)

  pub then-holds : ok tt ≡ o → on o f ≡ f tt
  then-holds e = on_value o f tt (sym e)
