-- What a query block that is accepted says: it asks a good query, it is there in full, and it is exactly a block of kind 4. Assumes nothing.
use mathlib.Core.Path.{◌≡◌, refl, sym, ap, ◌∙◌, subst}
use mathlib.Core.Bool.{Bool, true, false, ◌&&◌, cond}
use mathlib.Core.List.{List}
use Prim.Native.Nat.{ℕ, ◌+◌, ◌≤◌}
use native.Mathlib.Omega.{arith}
use borrow.Author.Tests.{eqb-true}
use lib.ListN.{length}
use lib.Dec.{eqb}
use Rattle.answer.specs.declared.Refusal.{Refusal}
use Rattle.answer.specs.Table.{query}
use Rattle.answer.specs.Refusal.{because}
use Rattle.answer.specs.Outcome.{Out, refused, ok, need}
use Rattle.answer.proofs.Outcomes.{never, ok-inj, need-ok, on-ok}
use Rattle.answer.proofs.Both.{both, both_l, both_r}
use Rattle.block.specs.declared.Block.{Block}
use Rattle.le.specs.Number.{number_at}
use Rattle.block.specs.Block.{block_at}
use Rattle.block.proofs.Blocks.{block-fits, block-says}
use Rattle.extent.specs.Rank.{finite}
use Rattle.extent.specs.declared.bounds.Bounds.{Bounds}
use Rattle.extent.specs.Boxes.{bounds_at, good_form}
use Rattle.extent.proofs.Floats.{float-finite, floats-good}
use Rattle.query.specs.declared.ask.Ask.{Ask}
use Rattle.query.specs.declared.ask.Query.TheVariants.{Everything}
use Rattle.query.specs.Ask.{good_query}
use Rattle.query.specs.Block.{instead, body_len, len_of, block_len, spot_asked, window_asked, asked, ask_of}
use Rattle.query.specs.Accepted.{Fronts, Accepts}
use Rattle.query.proofs.Blocks.{len_is, block-found, ask-exactly, body-most}

-- ---- what is asked is good

spot-sound : (x y : ℕ) (a : Ask) → spot_asked x y ≡ ok a → good_query a.query ≡ true
unfolding spot_asked good_query
spot-sound x y a e =
    let w = need-ok (finite x && finite y) (because query) _ a e in
    let fx = float-finite x (both_l (finite x) (finite y) w.0) in
    let fy = float-finite y (both_r (finite x) (finite y) w.0) in
    ap (λ (k : Ask). good_query k.query) (sym (ok-inj w.1)) ∙ both fx fy

window-sound : (p : Bounds) (a : Ask) → window_asked p ≡ ok a → good_query a.query ≡ true
unfolding window_asked good_query
window-sound p a e =
    let w = need-ok (good_form p) (because query) _ a e in
    ap (λ (k : Ask). good_query k.query) (sym (ok-inj w.1)) ∙ floats-good p w.0

-- whichever of two gave it
either : (P : Type 0) (t : Bool) (x y : Out Ask) (a : Ask) → (x ≡ ok a → P) → (y ≡ ok a → P) → cond t x y ≡ ok a → P
either P true x y a f g e = f e
either P false x y a f g e = g e

asked-sound : (s : List ℕ) (a : Ask) → asked s ≡ ok a → good_query a.query ≡ true
unfolding asked
asked-sound s a e =
    either (good_query a.query ≡ true) (eqb (length s) 6) _ _ a (λ h. ap (λ (k : Ask). good_query k.query) (sym (ok-inj h)) ∙ everything)
    (λ g. either (good_query a.query ≡ true) (eqb (length s) 22) _ _ a (spot-sound (number_at 8 s 6) (number_at 8 s 14) a)
    (λ h. either (good_query a.query ≡ true) (eqb (length s) 38) _ _ a (window-sound (bounds_at s 6) a) (λ n. absurd (never n)) h) g) e
  where
    everything : good_query Everything ≡ true
    everything = unfold good_query in refl

pub ask-sound : (s : List ℕ) (a : Ask) → ask_of s ≡ ok a → good_query a.query ≡ true
unfolding ask_of
ask-sound s a e =
    let w = on-ok (block_len s) (λ n. need (eqb n (length s)) (because query) (asked s)) a e in
    asked-sound s a (need-ok (eqb w.0 (length s)) (because query) (asked s) a w.2).1

-- as the code reads it
pub read-sound : (s : List ℕ) (r : Out Ask) (a : Ask) → r ≡ ask_of s → r ≡ ok a → good_query a.query ≡ true
read-sound s r a e h = ask-sound s a (sym e ∙ h)

-- ---- the block that is found

instead-ok : {A : Type 0} (w : Refusal) (o : Out A) (a : A) → instead w o ≡ ok a → o ≡ ok a
unfolding instead
instead-ok w (refused x) a e = absurd (never e)
instead-ok w (ok b) a e = e

pub len-fronts : (s : List ℕ) (n : ℕ) → block_len s ≡ ok n → Fronts s n
unfolding block_len len_of
len-fronts s n e =
    let w = on-ok (instead (because query) (block_at s 0)) len_of n e in
    let b = w.0 in
    let v = need-ok (eqb b.kind 4 && body_len b.len) (because query) (ok (6 + b.len)) n w.2 in
    record {
      block = b;
      found = instead-ok (because query) (block_at s 0) b w.1;
      kind = eqb-true b.kind 4 (both_l (eqb b.kind 4) (body_len b.len) v.0);
      body = both_r (eqb b.kind 4) (body_len b.len) v.0;
      takes = ok-inj v.1;
    }

pub fronts-len : (s : List ℕ) (n : ℕ) → Fronts s n → block_len s ≡ ok n
fronts-len s n f = block-found s f.block f.found ∙ len_is f.block f.kind f.body ∙ ap ok f.takes

-- it is there in full, and is short
pub len-fits : (s : List ℕ) (n : ℕ) → block_len s ≡ ok n → n ≤ length s
len-fits s n e =
    let f = len-fronts s n e in
    let h = block-fits s 0 f.block f.found in
    let k : 6 ≡ f.block.body = ap (λ (b : Block). b.body) (block-says s 0 f.block f.found).1 in
    let t = f.takes in
    omega (arith, h, k, t)

pub len_short : (s : List ℕ) (n : ℕ) → block_len s ≡ ok n → n ≤ 38
len_short s n e =
    let f = len-fronts s n e in
    let h = body-most f.block.len f.body in
    let t = f.takes in
    omega (arith, h, t)

-- ---- exactly a block: what is accepted, and that it is

pub ask-accepts : (s : List ℕ) (a : Ask) → ask_of s ≡ ok a → Accepts s a
unfolding ask_of
ask-accepts s a e =
    let w = on-ok (block_len s) (λ n. need (eqb n (length s)) (because query) (asked s)) a e in
    let v = need-ok (eqb w.0 (length s)) (because query) (asked s) a w.2 in
    record { exactly = subst (Fronts s) (eqb-true w.0 (length s) v.0) (len-fronts s w.0 w.1); says = v.1 }

pub accepts-ask : (s : List ℕ) (a : Ask) → Accepts s a → ask_of s ≡ ok a
accepts-ask s a h = ask-exactly s (length s) (fronts-len s (length s) h.exactly) refl ∙ h.says
