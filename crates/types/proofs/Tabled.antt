-- What holds in each row of the table, by one test that is computed over all of them. Assumes nothing.
use mathlib.Core.Path.{◌≡◌, refl, sym, ap, ◌∙◌}
use mathlib.Core.Bool.{Bool, true, not, ◌||◌}
use Prim.Native.Nat.{ℕ, ◌≤◌}
use native.Mathlib.Omega.{arith}
use borrow.Author.Tests.{leb-true, lt-leb}
use lib.Dec.{leb}
use Rattle.types.specs.declared.rows.TypeRow.{TypeRow}
use Rattle.answer.specs.All.{all_of}
use Rattle.types.specs.Types.{last_type, empty_row, type_rows, type_row}
use Rattle.answer.proofs.Alls.{all-at}

-- a test that all rows pass, the row of each type passes
pub each_row : (f : TypeRow → Bool) (t : ℕ) → all_of f type_rows ≡ true → t ≤ last_type → f (type_row t) ≡ true
unfolding type_row
each_row f t e h = all-at f type_rows t empty_row e (omega arith)

-- parts that are rings have 4 vertices or more
ring_long : TypeRow → Bool
ring_long r = not r.rings || leb 4 r.least_vertices

pub ring-four : (t : ℕ) → t ≤ last_type → (type_row t).rings ≡ true → 4 ≤ (type_row t).least_vertices
unfolding ring_long all_of
ring-four t h e = leb-true 4 (type_row t).least_vertices (sym (ap (λ (b : Bool). not b || leb 4 (type_row t).least_vertices) e) ∙ each_row ring_long t refl h)

-- where there may be a part, it has a vertex
part-full : TypeRow → Bool
part-full r = leb r.most_parts 0 || leb 1 r.least_vertices

pub one-vertex : (t : ℕ) → t ≤ last_type → 1 ≤ (type_row t).most_parts → 1 ≤ (type_row t).least_vertices
unfolding part-full all_of
one-vertex t h e = leb-true 1 (type_row t).least_vertices (sym (ap (λ (b : Bool). b || leb 1 (type_row t).least_vertices) (lt-leb (type_row t).most_parts 0 e)) ∙ each_row part-full t refl h)
