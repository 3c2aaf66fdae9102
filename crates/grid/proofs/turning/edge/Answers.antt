-- `grid::turning::edge` meets its contract: products of sizes up to 2 ^ 24 are within 2 ^ 48, and their difference within 2 ^ 49. Assumes nothing.
use mathlib.Core.Path.{◌≡◌, refl, sym, subst}
use Prim.Native.Nat.{◌^◌, ◌≤◌}
use native.Mathlib.Omega.{arith}
use lib.IntN.{ℤ, nat_abs, ◌*ℤ◌, ◌-ℤ◌}
use mir.Syntax.{w64}
use mir.Val.{SFits, to_z, of_z}
use Rattle.grid.proofs.Sizes.{mul-within, fits-64, back-64}
use Rattle.grid.proofs.Turns.{edge-fits}
use Rattle.grid.proofs.turning.edge.Goals as goal

-- a whole number on grid
abbrev Near : ℤ → Type 0
Near z = nat_abs z ≤ 2 ^ 24

-- what is read back from the bits that are written
abbrev bits : ℤ → ℤ
bits z = to_z w64 (of_z w64 z)

-- a product of two, as the code makes it
product : (a b : ℤ) → Near a → Near b → bits a *ℤ bits b ≡ a *ℤ b
product a b p q = λ i. back-64 (2 ^ 24) a a refl p (omega arith) i *ℤ back-64 (2 ^ 24) b b refl q (omega arith) i

product-fits : (a b : ℤ) → Near a → Near b → SFits w64 (bits a *ℤ bits b)
product-fits a b p q = subst (SFits w64) (sym (product a b p q)) (fits-64 (2 ^ 48) (a *ℤ b) (mul-within (2 ^ 24) a b p q) (omega arith))

-- a difference of two products
module _ (a b c d : ℤ) (p : Near a) (q : Near b) (s : Near c) (t : Near d) where
  difference : bits (bits a *ℤ bits b) -ℤ bits (bits c *ℤ bits d) ≡ a *ℤ b -ℤ c *ℤ d
  difference = λ i. back-64 (2 ^ 48) _ _ (product a b p q) (mul-within (2 ^ 24) a b p q) (omega arith) i -ℤ back-64 (2 ^ 48) _ _ (product c d s t) (mul-within (2 ^ 24) c d s t) (omega arith) i

  within : nat_abs (a *ℤ b -ℤ c *ℤ d) ≤ 2 ^ 49
  within = edge-fits a d c b p t s q

  difference-fits : SFits w64 (bits (bits a *ℤ bits b) -ℤ bits (bits c *ℤ bits d))
  difference-fits = subst (SFits w64) (sym difference) (fits-64 (2 ^ 49) (a *ℤ b -ℤ c *ℤ d) within (omega arith))

  difference-back : bits (bits (bits a *ℤ bits b) -ℤ bits (bits c *ℤ bits d)) ≡ a *ℤ b -ℤ c *ℤ d
  difference-back = back-64 (2 ^ 49) _ _ difference within (omega arith)

pub overflow_mul-result : goal.overflow_mul-result
overflow_mul-result c = search product-fits

pub overflow_mul-result-2 : goal.overflow_mul-result-2
overflow_mul-result-2 c = search product-fits

pub overflow_sub-result : goal.overflow_sub-result
overflow_sub-result c = search difference-fits

pub returns : goal.returns
returns c = difference-back c.args.x0 c.args.y1 c.args.x1 c.args.y0 c.requires.0 c.requires.3 c.requires.2 c.requires.1
