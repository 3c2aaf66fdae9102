-- Laws of a page body's layout, at every edition. Assumes nothing.
use Prim.Native.Nat.{ℕ, ◌+◌, ◌*◌, ◌≤◌}
use mathlib.Core.Path.{◌≡◌, refl}
use native.Mathlib.Omega.{arith}
use Rattle.frame.specs.Layout.{the_edition, each, layout_of}

-- the registers take little
pub registers-le : (edition g : ℕ) → g ≤ 256 → each edition * g ≤ 2048
unfolding each
registers-le edition g h = omega arith

-- the columns stand behind the two byte lengths, and these behind the box
pub columns-at : (edition g p : ℕ) → (layout_of edition g p).columns ≡ (layout_of edition g p).sizes + 8
unfolding layout_of
columns-at edition g p = refl

pub sizes-from : (edition g p : ℕ) → 38 ≤ (layout_of edition g p).sizes
unfolding layout_of
sizes-from edition g p = let r = each edition * g in omega arith

-- and no layout is large
pub columns-le : (edition g p : ℕ) → g ≤ 256 → p ≤ 2048 → (layout_of edition g p).columns ≤ 6958
unfolding layout_of
columns-le edition g p a b = let l = registers-le edition g a in omega arith

-- the bytes before the columns
pub columns-are : (edition g p : ℕ) → (layout_of edition g p).columns ≡ 46 + each edition * g + 3 * g + 2 * p
unfolding layout_of
columns-are edition g p = let r = each edition * g in omega arith

-- "Body length = 46 + 7g + 2p + cx + cy"
pub columns-one : (g p : ℕ) → (layout_of the_edition g p).columns ≡ 46 + 7 * g + 2 * p
unfolding each
columns-one g p = omega (arith, columns-are the_edition g p)
