-- Shown here: the bytes that were read lie within the room. Nothing is assumed.
use Prim.Native.Nat.{ℕ}
use mathlib.Core.Path.{◌≡◌, subst}
use mathlib.Core.List.{List}
use Rattle.io.specs.Counts.{IsPrefixLen}
use Rattle.std.specs.declared.result.Result.{Result}
use Rattle.std.specs.declared.result.Result.TheVariants.{Ok}
use Rattle.std.specs.declared.io.Error.{Error}
use Rattle.input.specs.Within.{Within}

pub within-is : (r : Result ℕ Error) (room : List ℕ) (n : ℕ) → Within r room → r ≡ Ok n → IsPrefixLen n room
unfolding Within
within-is r room n w e = subst (λ (x : Result ℕ Error). Within x room) e w
