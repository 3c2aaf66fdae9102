-- What the library's test of each of a list says in the words of `all_of`. Assumes nothing.
use Rattle.std.proofs.Common.{◌≡◌, ◌↔◌, suc, Bool, true, false, List, [], ◌∷◌, IsTrue, All, arith, refl, sym}
use Rattle.answer.specs.All.{all_of}
use Rattle.answer.proofs.Alls.{all-at}
use Rattle.answer.proofs.Both.{both, not-true, no_both}

each_passes : {A : Type 0} (f : A → Bool) (l : List A) → All (λ (a : A). IsTrue (f a)) l → all_of f l ≡ true
unfolding all_of
each_passes f [] h = refl
each_passes f (a ∷ l) h = both (h 0 a (omega arith)) (each_passes f l (λ k d lt. h (suc k) d (omega arith)))

same_tests : (a b : Bool) → (a ≡ true → b ≡ true) → (b ≡ true → a ≡ true) → a ≡ b
same_tests true b f g = sym (f refl)
same_tests false b f g = sym (not-true b (λ e. no_both refl (g e)))

pub all_tested : {A : Type 0} (f : A → Bool) (l : List A) (r : Bool) → (IsTrue r ↔ All (λ (a : A). IsTrue (f a)) l) → r ≡ all_of f l
all_tested f l r h = same_tests r (all_of f l) (λ e. each_passes f l (h.0 e)) (λ e. h.1 (λ k d lt. all-at f l k d e lt))
