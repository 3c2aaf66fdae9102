-- Laws of outcomes, one for each way through `need` and `on`; callers cite these and not the definitions' text. Assumes nothing.
use Prim.Native.Nat.{ℕ}
use mathlib.Core.Path.{◌≡◌, refl, sym, ap, ◌∙◌}
use mathlib.Core.Bool.{Bool, true, false}
use mathlib.Core.List.{List, ◌++◌}
use native.Mathlib.Omega.{arith}
use lib.ListN.{length, drop}
use Rattle.std.specs.Result.{IsErrAnd}
use Rattle.answer.specs.declared.Refusal.{Refusal}
use Rattle.answer.specs.Outcome.{Out, refused, ok, need, on, marked, filled, answered, Fills}

-- no refusal is a value
pub never : {A : Type 0} {w : Refusal} {a : A} → ◌≡◌ {A = Out A} (refused w) (ok a) → ⊥
never e = let z : ◌≡◌ {A = ℕ} 0 1 = cc in omega arith

pub ok-inj : {A : Type 0} {a b : A} → ◌≡◌ {A = Out A} (ok a) (ok b) → a ≡ b
ok-inj e = cc

pub refused-inj : {A : Type 0} {w x : Refusal} → ◌≡◌ {A = Out A} (refused w) (refused x) → w ≡ x
refused-inj e = cc

-- a refusal that is handed on is the same
pub handed-on : {A : Type 0} {r : Out A} {w : Refusal} → IsErrAnd r (λ x. x ≡ w) → r ≡ refused w
handed-on {r = ok a} h = absurd h
handed-on {r = refused x} h = ap refused h

-- a test that holds, and one that does not
pub met : {A : Type 0} {t : Bool} (w : Refusal) (x : Out A) → t ≡ true → need t w x ≡ x
unfolding need
met w x e = ap (λ (t : Bool). need t w x) e

pub unmet : {A : Type 0} {t : Bool} (w : Refusal) (x : Out A) → t ≡ false → need t w x ≡ refused w
unfolding need
unmet w x e = ap (λ (t : Bool). need t w x) e

-- where a value comes, each test held and each part gave a value
pub need-ok : {A : Type 0} (t : Bool) (w : Refusal) (x : Out A) (a : A) → need t w x ≡ ok a → (t ≡ true) × (x ≡ ok a)
unfolding need
need-ok true w x a e = (refl, e)
need-ok false w x a e = absurd (never e)

pub on-ok : {A B : Type 0} (x : Out A) (f : A → Out B) (b : B) → on x f ≡ ok b → (a : A) × (x ≡ ok a) × (f a ≡ ok b)
unfolding on
on-ok (refused w) f b e = absurd (never e)
on-ok (ok a) f b e = (a, refl, e)

-- ---- an outcome whose refusal is marked with where it was met: in a column, in a page

pub marked_refused : {A : Type 0} {o : Out A} (f : Refusal → Refusal) (w : Refusal) → o ≡ refused w → marked f o ≡ refused (f w)
unfolding marked
marked_refused f w e = rw e

pub marked-value : {A : Type 0} {o : Out A} (f : Refusal → Refusal) (a : A) → o ≡ ok a → marked f o ≡ ok a
unfolding marked
marked-value f a e = rw e

-- and back
pub marked-ok : {A : Type 0} (f : Refusal → Refusal) (o : Out A) (a : A) → marked f o ≡ ok a → o ≡ ok a
unfolding marked
marked-ok f (refused w) a e = absurd (never e)
marked-ok f (ok b) a e = e

pub marked-failed : {A : Type 0} (f : Refusal → Refusal) (o : Out A) (w : Refusal) → marked f o ≡ refused w → (x : Refusal) × (o ≡ refused x) × (w ≡ f x)
unfolding marked
marked-failed f (refused x) w e = (x, refl, sym (refused-inj e))
marked-failed f (ok a) w e = absurd (never (sym e))

-- ---- a call that fills a room, by its outcome

module _ {o : Out (List ℕ)} {d : List ℕ} where
  -- a refusal says so and leaves the room
  pub fills-refused : (w : Refusal) → o ≡ refused w → Fills o d (refused w) d
  unfolding filled answered
  fills-refused w e = record { answer = rw e; room = rw e }

  -- a value says how long it is and stands at the start
  pub fills-ok : (l : List ℕ) (n : ℕ) (left : List ℕ) → o ≡ ok l → n ≡ length l → left ≡ l ++ drop n d → Fills o d (ok n) left
  unfolding filled answered
  fills-ok l n left e h r = record { answer = rw (e, h); room = rw e (rw (← h) r) }

-- and back: what it says tells its outcome, and what it left
pub filled-refused : (o : Out (List ℕ)) (d : List ℕ) (w : Refusal) (left : List ℕ) → Fills o d (refused w) left → (o ≡ refused w) × (left ≡ d)
unfolding filled answered
filled-refused (refused x) d w left f = (let e = f.answer in let z : x ≡ w = cc in ap refused z, f.room)
filled-refused (ok l) d w left f = absurd (let e = f.answer in let z : ◌≡◌ {A = ℕ} 0 1 = cc in omega arith)

pub filled-start : (o : Out (List ℕ)) (d : List ℕ) (n : ℕ) (left : List ℕ) → Fills o d (ok n) left → (l : List ℕ) × (o ≡ ok l) × (n ≡ length l) × (left ≡ l ++ drop n d)
unfolding filled answered
filled-start (refused x) d n left f = absurd (let e = f.answer in let z : ◌≡◌ {A = ℕ} 0 1 = cc in omega arith)
filled-start (ok l) d n left f =
    let e = f.answer in
    let z : n ≡ length l = cc in
    (l, refl, z, f.room ∙ ap (λ (k : ℕ). l ++ drop k d) (sym z))
