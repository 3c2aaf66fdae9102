-- What a service comes to: its refusal, or its value. A service's definition is its own order of `need` and `on`, read from the top. Assumes
-- nothing.
use Rattle.std.specs.Prelude.{ℕ, ◌≡◌, Bool, true, false, List, ◌++◌, length, drop}
use Rattle.std.specs.declared.result.Result.{Result}
pub use Rattle.std.specs.declared.result.Result.TheVariants.{Ok as ok, Err as refused}
use Rattle.answer.specs.declared.Refusal.{Refusal}
use Rattle.answer.specs.Refusal.{on_column, on_page}

-- the value; or refused, and why
abbrev pub Out : Type 0 → Type 0
Out A = Result A Refusal

-- a test that must hold, else that refusal
unfoldable pub need : {A : Type 0} → Bool → Refusal → Out A → Out A
need true w next = next
need false w next = refused w

-- first this, then that with its value
unfoldable pub on : {A B : Type 0} → Out A → (A → Out B) → Out B
on (refused w) f = refused w
on (ok a) f = f a

-- the same, a refusal marked with where it was met
unfoldable pub marked : {A : Type 0} → (Refusal → Refusal) → Out A → Out A
marked f (refused w) = refused (f w)
marked f (ok a) = ok a

-- the same, met in column c of a page
abbrev pub in_column : {A : Type 0} → ℕ → Out A → Out A
in_column c o = marked (on_column c) o

-- the same, met in page k
abbrev pub in_page : {A : Type 0} → ℕ → Out A → Out A
in_page k o = marked (on_page k) o

-- ---- calls that fill the start of a lent room

-- what such a call leaves in a room that held d: the answer and behind it the rest as it was; a refusal changes nothing
unfoldable pub filled : Out (List ℕ) → List ℕ → List ℕ
filled (refused w) d = d
filled (ok l) d = l ++ drop (length l) d

-- what it says: how many it put there, or the refusal
unfoldable pub answered : Out (List ℕ) → Out ℕ
answered (refused w) = refused w
answered (ok l) = ok (length l)

-- the contract of such a call: what it says, and the room as it leaves it, are those of the outcome o
pub record Fills (o : Out (List ℕ)) (d : List ℕ) (says : Out ℕ) (left : List ℕ) : Type 0 where
  pub answer : says ≡ answered o
  pub room : left ≡ filled o d
