-- What is known of the vertices of a shape is known of those of a part. Assumes nothing.
use mathlib.Core.Path.{◌≡◌, sym, ap, ◌∙◌}
use mathlib.Core.List.{List}
use Prim.Native.Nat.{ℕ, ◌-◌, ◌^◌, min}
use native.Mathlib.Omega.{arith}
use lib.IntN.{ℤ}
use lib.ListN.{length, take, drop, length-take, length-drop}
use mir.Syntax.{w64}
use mir.Val.{to_z, of_z}
use Rattle.answer.proofs.Alls.{all-part}
use Rattle.grid.specs.Grid.{on_grid}
use Rattle.grid.specs.Turn.{turn_of}
use Rattle.grid.proofs.Sizes.{back-64}
use Rattle.grid.proofs.Turns.{turn-64}
use Rattle.shape.specs.Ready.{Gridded}

pub length_part : (at n : ℕ) (l : List ℕ) → length (take n (drop at l)) ≡ min n (length l - at)
length_part at n l = length-take n (drop at l) ∙ ap (min n) (length-drop at l)

-- as many x as y
pub same-part : (at n : ℕ) (xs ys : List ℕ) → length ys ≡ length xs → length (take n (drop at ys)) ≡ length (take n (drop at xs))
same-part at n xs ys e = length_part at n ys ∙ ap (λ (k : ℕ). min n (k - at)) e ∙ sym (length_part at n xs)

-- on grid
pub gridded-part : (at n : ℕ) (xs ys : List ℕ) → Gridded xs ys → Gridded (take n (drop at xs)) (take n (drop at ys))
gridded-part at n xs ys g = record {
  same = same-part at n xs ys g.same;
  few = omega (arith, length_part at n xs, g.few);
  grid_x = all-part on_grid at n xs g.grid_x;
  grid_y = all-part on_grid at n ys g.grid_y;
}

-- and their turn fits, so that it is handed on as it is
pub turn-back : (xs ys : List ℕ) (z : ℤ) → z ≡ turn_of xs ys → Gridded xs ys → to_z w64 (of_z w64 z) ≡ turn_of xs ys
turn-back xs ys z e g = back-64 (2 ^ 60) z (turn_of xs ys) e (turn-64 xs ys g.grid_x g.grid_y (omega (arith, g.few))) (omega arith)
