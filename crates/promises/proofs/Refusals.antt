-- What is so of every refusal of an outcome, over what it is: one law for each way in which a service's outcome is made of others. Nothing is assumed.
use Prim.Native.Nat.{ℕ}
use mathlib.Core.Path.{◌≡◌, refl, sym, subst}
use mathlib.Core.Bool.{Bool, true, false, cond}
use Rattle.answer.specs.declared.Refusal.{Refusal}
use Rattle.answer.specs.Refusal.{because}
use Rattle.answer.specs.Outcome.{Out, refused, ok, need, on, marked}
use Rattle.answer.specs.Rule.{rule}
use Rattle.answer.proofs.Outcomes.{never, refused-inj}
use Rattle.promises.specs.Refusing.{Refuses}

module _ {A : Type 0} (Such : Refusal → Type 0) where
  pub ok-gives : (a : A) → Refuses Such (ok a)
  ok-gives a = record { such = λ w e. absurd (never (sym e)) }

  pub refused-gives : (w : Refusal) → Such w → Refuses {A = A} Such (refused w)
  refused-gives w h = record { such = λ v e. subst Such (refused-inj e) h }

-- either may count on the test
pub asked-gives : {A : Type 0} (Such : Refusal → Type 0) (b : Bool) (w : Refusal) (o : Out A) → (b ≡ false → Such w) → (b ≡ true → Refuses Such o) → Refuses Such (need b w o)
unfolding need
asked-gives Such true w o h g = g refl
asked-gives Such false w o h g = refused-gives Such w (h refl)

pub need-gives : {A : Type 0} (Such : Refusal → Type 0) (b : Bool) (w : Refusal) (o : Out A) → Such w → Refuses Such o → Refuses Such (need b w o)
need-gives Such b w o h g = asked-gives Such b w o (λ e. h) (λ e. g)

-- what comes after may count on the value before it
pub after-gives : {A B : Type 0} (Such : Refusal → Type 0) (o : Out A) (f : A → Out B) → Refuses Such o → ((a : A) → o ≡ ok a → Refuses Such (f a)) → Refuses Such (on o f)
unfolding on
after-gives Such (refused w) f g h = refused-gives Such w (g.such w refl)
after-gives Such (ok a) f g h = h a refl

pub on-gives : {A B : Type 0} (Such : Refusal → Type 0) (o : Out A) (f : A → Out B) → Refuses Such o → ((a : A) → Refuses Such (f a)) → Refuses Such (on o f)
on-gives Such o f g h = after-gives Such o f g (λ a e. h a)

-- what is refused is marked with where it was met
pub marked-gives : {A : Type 0} (Such : Refusal → Type 0) (f : Refusal → Refusal) (o : Out A) → Refuses (λ w. Such (f w)) o → Refuses Such (marked f o)
unfolding marked
marked-gives Such f (refused w) g = refused-gives Such (f w) (g.such w refl)
marked-gives Such f (ok a) g = ok-gives Such a

-- either way may count on its test
pub test-gives : {A : Type 0} (Such : Refusal → Type 0) (b : Bool) (o p : Out A) → (b ≡ true → Refuses Such o) → (b ≡ false → Refuses Such p) → Refuses Such (cond b o p)
test-gives Such true o p g h = g refl
test-gives Such false o p g h = h refl

pub cond-gives : {A : Type 0} (Such : Refusal → Type 0) (b : Bool) (o p : Out A) → Refuses Such o → Refuses Such p → Refuses Such (cond b o p)
cond-gives Such b o p g h = test-gives Such b o p (λ e. g) (λ e. h)

pub rule-gives : (Such : Refusal → Type 0) (b : Bool) (n : ℕ) → Such (because n) → Refuses Such (rule b n)
unfolding rule
rule-gives Such b n h = need-gives Such b (because n) (ok tt) h (ok-gives Such tt)

-- what is such is so too
pub so-gives : {A : Type 0} (Such So : Refusal → Type 0) (o : Out A) → ((w : Refusal) → o ≡ refused w → Such w → So w) → Refuses Such o → Refuses So o
so-gives Such So o h g = record { such = λ w e. h w e (g.such w e) }
