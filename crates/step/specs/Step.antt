-- One value a call. A position holds bit place, values given, width and last value. With none given it starts at the first bit; any other is
-- taken as it stands: after 3, in this order, a width over P gives 8, a place past the bytes 9, and with N or more given only the rules of the
-- end (9, 10) remain. An answer that gives no value hands the position back unchanged. A refusal has the index of the value at which it was met, as the
-- column's read has. Assumes nothing.
use Rattle.std.specs.Prelude.{ℕ, ◌+◌, ◌*◌, ◌^◌, cond, List, leb, ltb, eqb, length, get_or}
use Rattle.answer.specs.Limits.{vertex_limit}
use Rattle.answer.specs.Table as Table
use Rattle.answer.specs.Refusal.{because, at_value}
use Rattle.answer.specs.Outcome.{Out, refused, ok, need}
use Rattle.le.specs.Number.{number, field}
use Rattle.entry.specs.Entry.{size_at, value_at}
use Rattle.column.specs.declared.Position.{Position}
use Rattle.column.specs.Read.{end_rules}
pub use Rattle.column.specs.Position.{position}
use Rattle.step.specs.declared.Answer.{Answer}
use Rattle.step.specs.declared.Answer.TheVariants.{Value, End, Refused}

-- what a call comes to where it is not refused: a value and the next position, or the end
pub data ValueOrEnd : Type 0 where
  value : ℕ → Position → ValueOrEnd
  end : ValueOrEnd

-- with none given: the width, and the first pattern
unfoldable pub first_call : ℕ → List ℕ → ℕ → Out ValueOrEnd
first_call P s n =
    let w = get_or s 0 0 in
    let v = field (number s) 8 P in
    cond (eqb n 0) (end_rules s 0 0 (ok end))
    (need (leb 1 (length s)) (because Table.bits)
    (need (leb w P) (because Table.width)
    (need (leb (8 + P) (8 * length s)) (because Table.bits)
    (ok (value v (position (8 + P) 1 w v))))))

-- the value that comes where so many of N were given; N where none does
unfoldable pub coming : ℕ → ℕ → ℕ
coming n given = cond (ltb given n) given n

-- with some given: the entry at the place, or the rules of the end. A next place that 64 bits cannot hold is refused by 9 as well
unfoldable pub later_call : ℕ → List ℕ → ℕ → Position → Out ValueOrEnd
later_call P s n p =
    let next = p.at + size_at P (number s) p.width p.at in
    let v = value_at P (number s) p.width p.at p.last in
    need (leb p.width P) (because Table.width)
    (need (leb p.at (8 * length s)) (at_value (coming n p.given) (because Table.bits))
    (cond (leb n p.given) (end_rules s n p.at (ok end))
    (need (leb next (8 * length s)) (at_value p.given (because Table.bits))
    (need (ltb next (2 ^ 64)) (at_value p.given (because Table.bits))
    (ok (value v (position next (p.given + 1) p.width v)))))))

-- the call
unfoldable pub step_of : ℕ → List ℕ → ℕ → Position → Out ValueOrEnd
step_of P s n p =
    need (leb n vertex_limit) (because Table.many)
    (cond (eqb p.given 0) (first_call P s n) (later_call P s n p))

-- its answer, with the position
unfoldable pub answer_with : Position → Out ValueOrEnd → Answer
answer_with p (refused w) = Refused w p
answer_with p (ok (value v q)) = Value v q
answer_with p (ok end) = End p
