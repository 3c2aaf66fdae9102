-- A run of answers of a reader is the run of the step on the bytes that it holds. So from a new reader it is the column read with room for n:
-- the last answer is that of the read, and before it come the values that the entries say. Assumes nothing.
use mathlib.Core.Path.{◌≡◌, refl, ap}
use mathlib.Core.List.{List, ◌∷◌}
use Prim.Native.Nat.{ℕ, zero, suc}
use native.Mathlib.Omega.{arith}
use denote.Ref.{Bor}
use Rattle.column.specs.declared.Position.{Position}
use Rattle.step.specs.declared.Answer.{Answer}
use Rattle.step.specs.declared.Answer.TheVariants.{Value, End, Refused}
use Rattle.step.specs.Run.{Run, follow, run_from, Runs}
use Rattle.step.proofs.Runs.{runs}
use Rattle.reader.specs.declared.Reader.{Reader}
use Rattle.reader.specs.Reader.{new_reader, moved_to, reader_answer, reader_run}

-- what goes on alike from each position is alike
goes-alike : (a : Answer) (f g : Position → Run) → ((p : Position) → f p ≡ g p) → follow a f ≡ follow a g
goes-alike (Value v q) f g same = ap (λ (r : Run). record { got = v ∷ r.got; last = r.last }) (same q)
goes-alike (End p) f g same = refl
goes-alike (Refused w p) f g same = refl

-- the run of a reader, at any position
pub held-run : (most : ℕ) (r : Reader) → reader_run most r ≡ run_from 64 r.src.now r.n most r.pos
unfolding reader_run run_from
held-run zero r = refl
held-run (suc most) r = goes-alike (reader_answer r) _ _ (λ p. held-run most (moved_to r p))

-- from a position with none given, as a new reader's
pub none-given : (r : Reader) → r.pos.given ≡ 0 → Runs 64 r.src.now r.n (reader_run (suc r.n) r)
none-given r e = rw (held-run (suc r.n) r) (runs 64 r.src.now r.n r.pos (omega arith) e)

pub held-runs : (s : Bor (List ℕ)) (n : ℕ) → Runs 64 s.now n (reader_run (suc n) (new_reader s n))
held-runs s n = none-given (new_reader s n) refl
