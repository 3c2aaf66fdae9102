-- A query block is refused by one number: 1, and no page. Assumes nothing.
use mathlib.Core.Path.{◌≡◌, sym, ap}
use mathlib.Core.Bool.{Bool, true, false, ◌&&◌, cond}
use mathlib.Core.List.{List}
use Prim.Native.Nat.{ℕ}
use lib.ListN.{length}
use lib.Dec.{eqb}
use Rattle.answer.specs.declared.Refusal.{Refusal}
use Rattle.answer.specs.Table.{query}
use Rattle.answer.specs.Refusal.{because}
use Rattle.answer.specs.Outcome.{Out, refused, ok, need, on}
use Rattle.answer.proofs.Outcomes.{never, refused-inj}
use Rattle.le.specs.Number.{number_at}
use Rattle.block.specs.Block.{block_at}
use Rattle.extent.specs.Rank.{finite}
use Rattle.extent.specs.declared.bounds.Bounds.{Bounds}
use Rattle.extent.specs.Boxes.{bounds_at, good_form}
use Rattle.query.specs.Block.{instead, body_len, len_of, block_len, spot_asked, window_asked, asked, ask_of}

-- no other refusal
abbrev pub Only : {A : Type 0} → Out A → Type 0
Only o = (w : Refusal) → o ≡ refused w → w ≡ because query

module _ {A : Type 0} where
  only-ok : (a : A) → Only (ok a)
  only-ok a w e = absurd (never (sym e))

  only-refused : Only {A = A} (refused (because query))
  only-refused w e = sym (refused-inj e)

  only-need : (t : Bool) (x : Out A) → Only x → Only (need t (because query) x)
  unfolding need
  only-need true x h = h
  only-need false x h = only-refused

  only-cond : (t : Bool) (x y : Out A) → Only x → Only y → Only (cond t x y)
  only-cond true x y h k = h
  only-cond false x y h k = k

  only-instead : (o : Out A) → Only (instead (because query) o)
  unfolding instead
  only-instead (refused x) = only-refused
  only-instead (ok a) = only-ok a

only-on : {A B : Type 0} (x : Out A) (f : A → Out B) → Only x → ((a : A) → Only (f a)) → Only (on x f)
unfolding on
only-on (refused v) f h k w e = h w (ap refused (refused-inj e))
only-on (ok a) f h k w e = k a w e

pub len-only : (s : List ℕ) → Only (block_len s)
unfolding block_len len_of
len-only s = only-on (instead (because query) (block_at s 0)) len_of (only-instead (block_at s 0)) (λ b. only-need (eqb b.kind 4 && body_len b.len) _ (only-ok _))

spot-only : (x y : ℕ) → Only (spot_asked x y)
unfolding spot_asked
spot-only x y = only-need (finite x && finite y) _ (only-ok _)

window-only : (p : Bounds) → Only (window_asked p)
unfolding window_asked
window-only p = only-need (good_form p) _ (only-ok _)

asked-only : (s : List ℕ) → Only (asked s)
unfolding asked
asked-only s =
    only-cond (eqb (length s) 6) _ _ (only-ok _)
    (only-cond (eqb (length s) 22) _ _ (spot-only (number_at 8 s 6) (number_at 8 s 14))
    (only-cond (eqb (length s) 38) _ _ (window-only (bounds_at s 6)) only-refused))

pub ask-only : (s : List ℕ) → Only (ask_of s)
unfolding ask_of
ask-only s = only-on (block_len s) _ (len-only s) (λ n. only-need (eqb n (length s)) (asked s) (asked-only s))
