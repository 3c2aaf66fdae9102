-- Shown here: rows that are put one behind the other are the lines of the lists that they are taken from; and the lines of lists are those of their parts.
-- Nothing is assumed.
use Prim.Native.Nat.{ℕ, zero, suc, ◌+◌, ◌-◌, ◌*◌, ◌≤◌, ◌<◌}
use mathlib.Core.Path.{◌≡◌, refl, sym, ap, ◌∙◌, subst}
use mathlib.Core.List.{List, [], ◌∷◌, ◌++◌, append_assoc, append-nil}
use native.Mathlib.Numerals.{add-one}
use native.Mathlib.Omega.{arith}
use lib.ListN.{length, get_or, take, drop, drop_of_length-le}
use lib.Seq.{drop-cons, drop-drop}
use Rattle.text.specs.Pieces.{Piece, text_of, Puts}
use Rattle.text.specs.Lines.{row}
use Rattle.text.proofs.Pieces.{◌then◌}
use Rattle.list.specs.Printed.{row_lines}

-- ---- the lines of lists

-- where there is a place, a register and a type at i, its row comes first
pub rows_next : (P R T : List ℕ) (i : ℕ) → i < length P → i < length R → i < length T
    → row_lines (drop i P) (drop i R) (drop i T) ≡ row (get_or P i 0) (get_or R i 0) (get_or T i 0) ++ row_lines (drop (i + 1) P) (drop (i + 1) R) (drop (i + 1) T)
unfolding row_lines
rows_next P R T i p r t = rw (drop-cons P i 0 p, drop-cons R i 0 r, drop-cons T i 0 t, add-one i)

-- where there is no place, nothing is left
pub rows-over : (P R T : List ℕ) (i : ℕ) → length P ≤ i → row_lines (drop i P) (drop i R) (drop i T) ≡ []
unfolding row_lines
rows-over P R T i h = rw (drop_of_length-le P h)

-- nor where there is no register, or no type
no-registers : (P T : List ℕ) → row_lines P [] T ≡ []
unfolding row_lines
no-registers [] T = refl
no-registers (p ∷ P) T = refl

no-types : (P R : List ℕ) → row_lines P R [] ≡ []
unfolding row_lines
no-types [] R = refl
no-types (p ∷ P) [] = refl
no-types (p ∷ P) (r ∷ R) = refl

-- the first m, and the others
rows_apart : (m : ℕ) (P R T : List ℕ) → row_lines P R T ≡ row_lines (take m P) (take m R) (take m T) ++ row_lines (drop m P) (drop m R) (drop m T)
unfolding row_lines
rows_apart zero P R T = refl
rows_apart (suc m) [] R T = refl
rows_apart (suc m) (p ∷ P) [] T = sym (no-registers (drop m P) (drop (suc m) T))
rows_apart (suc m) (p ∷ P) (r ∷ R) [] = sym (no-types (drop m P) (drop m R))
rows_apart (suc m) (p ∷ P) (r ∷ R) (t ∷ T) = ap (λ (l : List Piece). row p r t ++ l) (rows_apart m P R T) ∙ sym (append_assoc (row p r t) _ _)

-- those from i to e, and those from e on
pub rows-between : (P R T : List ℕ) (i e : ℕ) → i ≤ e
    → row_lines (drop i P) (drop i R) (drop i T)
    ≡ row_lines (take (e - i) (drop i P)) (take (e - i) (drop i R)) (take (e - i) (drop i T)) ++ row_lines (drop e P) (drop e R) (drop e T)
rows-between P R T i e h =
    let z : i + (e - i) ≡ e = omega arith in
    let on : (l : List ℕ) → drop (e - i) (drop i l) ≡ drop e l = λ l. drop-drop (e - i) i l ∙ ap (λ (k : ℕ). drop k l) z in
    rows_apart (e - i) (drop i P) (drop i R) (drop i T)
    ∙ ap (λ (l : List Piece). row_lines (take (e - i) (drop i P)) (take (e - i) (drop i R)) (take (e - i) (drop i T)) ++ l) (rw (on P, on R, on T))

-- ---- the loop that puts them

-- i rows are put into a room that held d, and what is left makes the same lines
pub record Rowing (d P R T out : List ℕ) (at i : ℕ) : Type 0 where
  pub done : List Piece
  pub puts : Puts d 0 done at out
  pub all : row_lines P R T ≡ done ++ row_lines (drop i P) (drop i R) (drop i T)
  pub some : i ≤ length P
  pub few : at ≤ 63 * i

pub rowing-none : (d P R T : List ℕ) → Rowing d P R T d 0 0
unfolding text_of
rowing-none d P R T = record { done = []; puts = record { next = refl; room = refl }; all = refl; some = omega arith; few = omega arith }

module _ (d P R T out : List ℕ) (at i : ℕ) (w : Rowing d P R T out at i) where
  pub rowing_more : i < length P → i < length R → i < length T → {r : ℕ} {left : List ℕ} → Puts out at (row (get_or P i 0) (get_or R i 0) (get_or T i 0)) r left → r ≤ at + 63
      → Rowing d P R T left r (i + 1)
  rowing_more p q t {r} {left} x h = record {
    done = w.done ++ row (get_or P i 0) (get_or R i 0) (get_or T i 0);
    puts = w.puts then x;
    all = w.all ∙ ap (λ (l : List Piece). w.done ++ l) (rows_next P R T i p q t) ∙ sym (append_assoc w.done _ _);
    some = omega arith;
    few = omega (arith, w.few);
  }

  pub rowing-done : length P ≤ i → Puts d 0 (row_lines P R T) at out
  rowing-done h = subst (λ (l : List Piece). Puts d 0 l at out) (sym (w.all ∙ ap (λ (l : List Piece). w.done ++ l) (rows-over P R T i h) ∙ append-nil w.done)) w.puts
