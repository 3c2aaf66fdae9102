-- Laws of rules. Assumes nothing.
use Prim.Native.Nat.{ℕ}
use mathlib.Core.Path.{◌≡◌, refl, sym, ap, ◌∙◌}
use mathlib.Core.Bool.{Bool, true, false}
use Rattle.answer.specs.declared.Refusal.{Refusal}
use Rattle.answer.specs.Refusal.{because}
use Rattle.answer.specs.Outcome.{Out, refused, ok, need, on, marked}
use Rattle.answer.specs.Rule.{rule, passed}
use Rattle.answer.proofs.Outcomes.{never, refused-inj, met, unmet}

-- a test that holds, and one that does not
pub rule-holds : (t : Bool) (n : ℕ) → t ≡ true → rule t n ≡ ok tt
unfolding rule
rule-holds t n e = met (because n) (ok tt) e

pub rule-fails : (t : Bool) (n : ℕ) → t ≡ false → rule t n ≡ refused (because n)
unfolding rule
rule-fails t n e = unmet (because n) (ok tt) e

-- where a rule lets pass, its test holds
pub rule-ok : (t : Bool) (n : ℕ) (u : Unit {0}) → rule t n ≡ ok u → t ≡ true
unfolding rule need
rule-ok true n u e = refl
rule-ok false n u e = absurd (never e)

-- ---- an outcome as a rule

pub passed_ok : {A : Type 0} {o : Out A} (a : A) → o ≡ ok a → ok tt ≡ passed o
unfolding passed on
passed_ok a e = rw e

pub passed-refused : {A : Type 0} {o : Out A} (w : Refusal) → o ≡ refused w → refused w ≡ passed o
unfolding passed on
passed-refused w e = rw e

-- refused by a number
pub passed-because : {A : Type 0} {o : Out A} (n : ℕ) (w : Refusal) → w ≡ because n → o ≡ refused (because n) → refused w ≡ passed o
unfolding passed on
passed-because n w h e = rw (e, h)

-- what is made of a value is passed with it
pub passed_on : {A B : Type 0} (o : Out A) (f : A → B) → passed (on o (λ a. ok (f a))) ≡ passed o
unfolding passed on
passed_on (refused w) f = refl
passed_on (ok a) f = refl

-- a rule decides an outcome where it holds just when the outcome is a value, and is its refusal else
pub rule-passed : {A : Type 0} (t : Bool) (n : ℕ) (o : Out A) → (t ≡ true → (a : A) × (o ≡ ok a)) → (t ≡ false → o ≡ refused (because n)) → rule t n ≡ passed o
unfolding rule need passed on
rule-passed true n o h m = rw (h refl).1
rule-passed false n o h m = rw (m refl)

-- marked with where it was met
pub passed-marked : {A : Type 0} (f : Refusal → Refusal) (o : Out A) → passed (marked f o) ≡ marked f (passed o)
unfolding passed on marked
passed-marked f (refused w) = refl
passed-marked f (ok a) = refl

-- and back: what an answer that was handed on tells of the outcome
pub holds-passed : {A : Type 0} (o : Out A) → ok tt ≡ passed o → (a : A) × (o ≡ ok a)
unfolding passed on
holds-passed (refused w) e = absurd (never (sym e))
holds-passed (ok a) e = (a, refl)

pub refused-passed : {A : Type 0} (o : Out A) (w : Refusal) → refused w ≡ passed o → o ≡ refused w
unfolding passed on
refused-passed (refused x) w e = ap refused (sym (refused-inj e))
refused-passed (ok a) w e = absurd (never e)

-- the same, by what a call answered
pub held : {A : Type 0} {o : Out A} {r : Out (Unit {0})} {u : Unit {0}} → r ≡ passed o → r ≡ ok u → (a : A) × (o ≡ ok a)
held {o = o} q e = holds-passed o (sym e ∙ q)

pub failed : {A : Type 0} {o : Out A} {r : Out (Unit {0})} {w : Refusal} → r ≡ passed o → r ≡ refused w → o ≡ refused w
failed {o = o} {w = w} q e = refused-passed o w (sym e ∙ q)
