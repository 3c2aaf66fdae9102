-- What each of rules 12 to 15 says of a page that it lets pass. Assumes nothing.
use mathlib.Core.Path.{◌≡◌}
use mathlib.Core.Bool.{true}
use mathlib.Core.List.{List}
use Prim.Native.Nat.{ℕ}
use Rattle.answer.specs.Table as table
use Rattle.answer.specs.Outcome.{ok}
use Rattle.answer.proofs.Rules.{rule-ok}
use Rattle.answer.proofs.Both.{both_l, both_r}
use Rattle.answer.specs.All.{all_of}
use Rattle.extent.specs.Rank.{all_finite}
use Rattle.shape.specs.Outline.{Outline}
use Rattle.shape.specs.Rules.{finite_rule, rings_closed, ring_rule, on_grid_shape, grid_rule, turns_hold, turn_rule}

pub finite-passed : (xs ys : List ℕ) (u : Unit {0}) → finite_rule xs ys ≡ ok u → (all_finite xs ≡ true) × (all_finite ys ≡ true)
unfolding finite_rule
finite-passed xs ys u e = let b = rule-ok _ table.finite u e in (both_l (all_finite xs) (all_finite ys) b, both_r (all_finite xs) (all_finite ys) b)

pub ring-passed : (os : List Outline) (u : Unit {0}) → ring_rule os ≡ ok u → all_of rings_closed os ≡ true
unfolding ring_rule
ring-passed os u e = rule-ok (all_of rings_closed os) table.ring u e

pub grid-passed : (os : List Outline) (u : Unit {0}) → grid_rule os ≡ ok u → all_of on_grid_shape os ≡ true
unfolding grid_rule
grid-passed os u e = rule-ok (all_of on_grid_shape os) table.grid u e

pub turn-passed : (os : List Outline) (u : Unit {0}) → turn_rule os ≡ ok u → all_of turns_hold os ≡ true
unfolding turn_rule
turn-passed os u e = rule-ok (all_of turns_hold os) table.turn u e
