-- `place::row::row_in` reads a register and a type where the layout says. Assumes nothing.
use native.Mathlib.Omega.{arith}
use mathlib.Core.Path.{refl}
use Rattle.place.proofs.Tables.{row-there, row_is}
use Rattle.place.proofs.row.row_in.Goals as goal

pub overflow_mul-h : goal.overflow_mul-h
overflow_mul-h c = let r = row-there _ _ _ _ c.requires.0.1 c.requires.1 in omega (arith, r.0)

pub overflow_add-h : goal.overflow_add-h
overflow_add-h c = let r = row-there _ _ _ _ c.requires.0.1 c.requires.1 in omega (arith, r.0)

pub u32_at-register-requires : goal.u32_at-register-requires
u32_at-register-requires c = (row-there _ _ _ _ c.requires.0.1 c.requires.1).0

pub overflow_add-at : goal.overflow_add-at
overflow_add-at c = let r = row-there _ _ _ _ c.requires.0.1 c.requires.1 in omega (arith, r.1)

pub bounds-b-at : goal.bounds-b-at
bounds-b-at c = let r = row-there _ _ _ _ c.requires.0.1 c.requires.1 in omega (arith, r.1)

pub returns : goal.returns
returns c = row_is _ _ _ _ _ c.requires.1 c.u32_at-register.ensures.0 refl
