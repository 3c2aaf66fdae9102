-- Shown here: the pieces that say where in a page, by the column that is named, and the most that they and the refused line take. Nothing is assumed.
use Prim.Native.Nat.{ℕ, ◌≤◌}
use mathlib.Core.Path.{◌≡◌, refl}
use mathlib.Core.Bool.{Bool, true, false, cond}
use mathlib.Core.List.{List, [], ◌∷◌}
use native.Mathlib.Omega.{arith}
use lib.Dec.{eqb}
use lib.ListN.{length}
use borrow.Author.Tests.{eq-eqb, ne_eqb}
use Rattle.answer.specs.Axis as Axis
use Rattle.answer.specs.declared.Refusal.{Refusal}
use Rattle.text.specs.Pieces.{words, number, codes, text_of, most, Puts}
use Rattle.text.specs.Lines.{column_words, where_words, refused_line}
use Rattle.text.proofs.Pieces.{most-append}

-- ---- by the column

module _ (column : ℕ) where
  pub column-x : column ≡ Axis.x → codes " column x value " ≡ column_words column
  unfolding column_words
  column-x e = simp (eq-eqb _ _ e)

  pub column-y : (column ≡ Axis.x → ⊥) → codes " column y value " ≡ column_words column
  unfolding column_words
  column-y e = simp (ne_eqb _ _ e)

  pub where-none : (index : ℕ) → column ≡ Axis.none → [] ≡ where_words column index
  unfolding where_words
  where-none index e = simp (eq-eqb _ _ e)

  pub where-some : (index : ℕ) → (column ≡ Axis.none → ⊥) → words (column_words column) ∷ number index ∷ [] ≡ where_words column index
  unfolding where_words
  where-some index e = simp (ne_eqb _ _ e)

-- nothing is put for no pieces
pub put-none : (d : List ℕ) (at : ℕ) → Puts d at [] at d
unfolding text_of
put-none d at = record { next = omega arith; room = refl }

-- ---- how much it takes

pub column-long : (column : ℕ) → length (column_words column) ≡ 16
unfolding column_words codes
column-long column = go (eqb column Axis.x)
  where
    go : (t : Bool) → length (cond t (codes " column x value ") (codes " column y value ")) ≡ 16
    go true = refl
    go false = refl

pub where-most : (column index : ℕ) → most (where_words column index) ≤ 36
unfolding where_words most
where-most column index = go (eqb column Axis.none)
  where
    go : (t : Bool) → most (cond t [] (words (column_words column) ∷ number index ∷ [])) ≤ 36
    go true = omega arith
    go false = omega (arith, column-long column)

pub refused-most : (w : Refusal) → most (refused_line w) ≤ 91
unfolding refused_line most codes
refused-most w = omega (arith, where-most w.column w.index, most-append (where_words w.column w.index) (words (codes "\n") ∷ []))
