-- A run of single calls, each from the position that the one before handed back, until an answer gives no value. Assumes nothing.
use Rattle.std.specs.Prelude.{ℕ, zero, suc, ◌*◌, ◌≤◌, ◌<◌, ◌≡◌, List, [], ◌∷◌, length, take}
use Rattle.answer.specs.Outcome.{Out, refused, ok}
use Rattle.column.specs.declared.Position.{Position}
use Rattle.column.specs.Read.{said_by, end_of, read_of}
use Rattle.step.specs.declared.Answer.{Answer}
use Rattle.step.specs.declared.Answer.TheVariants.{Value, End, Refused}
use Rattle.step.specs.Step.{step_of, answer_with}

-- the values given, and the last answer
pub record Run : Type 0 where
  pub got : List ℕ
  pub last : Answer

-- a value goes on; any other answer is the last
abbrev pub follow : Answer → (Position → Run) → Run
follow (Value v q) go = let r = go q in record { got = v ∷ r.got; last = r.last }
follow (End p) go = record { got = []; last = End p }
follow (Refused w p) go = record { got = []; last = Refused w p }

-- the run from a position, of at most so many values
unfoldable pub run_from : ℕ → List ℕ → ℕ → ℕ → Position → Run
run_from P s n zero p = record { got = []; last = answer_with p (step_of P s n p) }
run_from P s n (suc most) p = follow (answer_with p (step_of P s n p)) (run_from P s n most)

-- a last answer is that of a column read: the end where it gives values, and its refusal where it is refused
abbrev pub EndsAs : Out (List ℕ) → Answer → Type 0
EndsAs (ok l) (Value v q) = ⊥
EndsAs (ok l) (End q) = Unit {0}
EndsAs (ok l) (Refused w q) = ⊥
EndsAs (refused x) (Value v q) = ⊥
EndsAs (refused x) (End q) = ⊥
EndsAs (refused x) (Refused w q) = w ≡ x

-- what the whole run is: it ends as the column read with room for n, by its constructor; it gives the values of that; they are in any case the
-- first of those that the entries say; and where fewer come than n, the next one is the first that ends past the bytes
pub record Runs (P : ℕ) (s : List ℕ) (n : ℕ) (r : Run) : Type 0 where
  pub ends : EndsAs (read_of P s n n) r.last
  pub reads : (l : List ℕ) → read_of P s n n ≡ ok l → r.got ≡ l
  pub says : r.got ≡ take (length r.got) (said_by P s n)
  pub lacks : (g : ℕ) → length r.got ≡ suc g → suc g < n → (end_of P s (suc g) ≤ 8 * length s) × (8 * length s < end_of P s (suc (suc g)))
