-- The order of a search, as its definitions have it: other laws cite these and not their text. Assumes nothing.
use mathlib.Core.Path.{◌≡◌, refl, sym, ap, ◌∙◌}
use mathlib.Core.List.{List, [], ◌∷◌, ◌++◌, append-nil, append_assoc}
use Prim.Native.Nat.{ℕ, suc, ◌+◌}
use Rattle.answer.specs.Table as table
use Rattle.answer.specs.declared.Refusal.{Refusal}
use Rattle.answer.specs.Outcome.{Out, refused, ok, on}
use Rattle.answer.specs.Rule.{rule}
use Rattle.query.specs.declared.ask.Ask.{Ask}
use Rattle.query.specs.Ask.{good_query}
use Rattle.frame.specs.Frame.{Page, frame_of}
use Rattle.search.specs.Search.{page_hits, met_of, met_in, hits_of}
use Rattle.answer.proofs.Orders.{on-refused, on_value}

-- page after page, and the places go on by the shapes of a page
pub met-none : (a : Ask) (k n : ℕ) → met_of a k n [] ≡ ok []
unfolding met_of
met-none a k n = refl

pub met-cons : (a : Ask) (k n : ℕ) (p : Page) (ps : List Page)
    → met_of a k n (p ∷ ps) ≡ on (page_hits a k n p) (λ here. on (met_of a (suc k) (n + p.head.g) ps) (λ rest. ok (here ++ rest)))
unfolding met_of
met-cons a k n p ps = refl

-- the frame before the pages
pub met-order : (a : Ask) (s : List ℕ) → met_in a s ≡ on (frame_of s) (λ f. met_of a 0 0 f.pages)
unfolding met_in
met-order a s = refl

-- the query before the frame
pub hits-order : (a : Ask) (s : List ℕ) → hits_of a s ≡ on (rule (good_query a.query) table.query) (λ _. met_in a s)
unfolding hits_of
hits-order a s = refl

-- one page more
module _ (a : Ask) (k n : ℕ) (p : Page) (ps : List Page) where
  pub met-refused : (w : Refusal) → page_hits a k n p ≡ refused w → met_of a k n (p ∷ ps) ≡ refused w
  met-refused w e = met-cons a k n p ps ∙ on-refused (page_hits a k n p) _ w e

  pub met-page : (here : List ℕ) → page_hits a k n p ≡ ok here
      → met_of a k n (p ∷ ps) ≡ on (met_of a (suc k) (n + p.head.g) ps) (λ rest. ok (here ++ rest))
  met-page here e = met-cons a k n p ps ∙ on_value (page_hits a k n p) _ here e

-- one after another
pub met-joined : (o : Out (List ℕ)) (l m : List ℕ) → on (on o (λ r. ok (m ++ r))) (λ r. ok (l ++ r)) ≡ on o (λ r. ok ((l ++ m) ++ r))
unfolding on
met-joined (refused w) l m = refl
met-joined (ok r) l m = ap ok (sym (append_assoc l m r))

-- nothing before
pub met-alone : (o : Out (List ℕ)) → o ≡ on o (λ l. ok ([] ++ l))
unfolding on
met-alone (refused w) = refl
met-alone (ok l) = refl

-- nothing after
pub met-last : (o : Out (List ℕ)) (l : List ℕ) → o ≡ ok [] → on o (λ r. ok (l ++ r)) ≡ ok l
unfolding on
met-last o l e = rw e (ap ok (append-nil l))

-- nothing at all
pub met-stopped : (o : Out (List ℕ)) (l : List ℕ) (w : Refusal) → o ≡ refused w → on o (λ r. ok (l ++ r)) ≡ refused w
unfolding on
met-stopped o l w e = rw e
