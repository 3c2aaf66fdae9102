-- What a decoding gives, as a verdict and a scratch; a refusal is marked with its column. Assumes nothing.
use Prim.Native.Nat.{ℕ}
use mathlib.Core.Path.{◌≡◌, refl, sym, ap, ◌∙◌}
use mathlib.Core.List.{List, ◌++◌, append-nil}
use native.Mathlib.Omega.{arith}
use lib.ListN.{length}
use lib.Seq.{drop-length}
use Rattle.answer.specs.Outcome.{Out, refused, ok, answered, marked}
use Rattle.answer.specs.declared.Refusal.{Refusal}
use Rattle.answer.proofs.Rules.{passed_ok, passed-refused}
use Rattle.answer.proofs.Outcomes.{marked_refused, marked-value}
use Rattle.column.specs.Read.{decode_of, Decodes}
use Rattle.column.proofs.Decoding.{scratch-ok}
use Rattle.page.specs.Scratched.{Scratched}

module _ (P : ℕ) (s d left : List ℕ) (f : Refusal → Refusal) where
  -- values
  pub given-values : (k : ℕ) → Decodes P s (length d) d (ok k) left → Scratched (marked f (decode_of P s (length d))) (ok tt) left
  unfolding answered
  given-values k h = go (decode_of P s (length d)) refl h.answer
    where
      go : (o : Out (List ℕ)) → decode_of P s (length d) ≡ o → ok k ≡ answered o → Scratched (marked f (decode_of P s (length d))) (ok tt) left
      go (refused x) e q = absurd (let z : ◌≡◌ {A = ℕ} 0 1 = cc in omega arith)
      go (ok l) e q =
          let w : left ≡ l = h.scratch ∙ (scratch-ok P s (length d) d l e).1 ∙ ap (λ (t : List ℕ). l ++ t) (drop-length d) ∙ append-nil l in
          let m = marked-value f l e in record { verdict = passed_ok l m; value = λ _. m ∙ ap ok (sym w) }

  -- a refusal
  pub given-refused : (w : Refusal) → Decodes P s (length d) d (refused w) left → Scratched (marked f (decode_of P s (length d))) (refused (f w)) left
  unfolding answered
  given-refused w h = go (decode_of P s (length d)) refl h.answer
    where
      go : (o : Out (List ℕ)) → decode_of P s (length d) ≡ o → refused w ≡ answered o → Scratched (marked f (decode_of P s (length d))) (refused (f w)) left
      go (refused x) e q =
          let z : w ≡ x = cc in
          record { verdict = passed-refused (f w) (marked_refused f w (e ∙ ap refused (sym z))); value = λ r. absurd (let y : ◌≡◌ {A = ℕ} 0 1 = cc in omega arith) }
      go (ok l) e q = absurd (let z : ◌≡◌ {A = ℕ} 0 1 = cc in omega arith)
