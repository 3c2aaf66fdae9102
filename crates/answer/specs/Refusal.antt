-- A refusal: a number of the table, and where: a page, a column of that page, and the index of a value of a column. One value. Its page is set by
-- `on_page` alone, its column by `on_column`, its index by `at_value`; otherwise it is passed on whole. Assumes nothing.
use Rattle.std.specs.Prelude.{ℕ}
use Rattle.answer.specs.declared.Refusal.{Refusal}
use Rattle.answer.specs.Axis as Axis

-- the refusal of a number, which concerns no page, no column and no value
abbrev pub because : ℕ → Refusal
because n = record { number = n; column = Axis.none; index = 0; page = 0 }

-- the same refusal, met at value i of a column
abbrev pub at_value : ℕ → Refusal → Refusal
at_value i w = record { number = w.number; column = w.column; index = i; page = w.page }

-- the same refusal, met in column c of a page
abbrev pub on_column : ℕ → Refusal → Refusal
on_column c w = record { number = w.number; column = c; index = w.index; page = w.page }

-- the same refusal, met in page k
abbrev pub on_page : ℕ → Refusal → Refusal
on_page k w = record { number = w.number; column = w.column; index = w.index; page = k }
