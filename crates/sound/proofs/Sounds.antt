-- Shown here: what the code says of the bytes that were read is what their definition says, the line that is put for it is theirs, and it is all that is printed.
-- Nothing is assumed.
use Prim.Native.Nat.{ℕ, ◌≤◌, ◌<◌}
use mathlib.Core.Path.{◌≡◌, refl, sym, ap, ◌∙◌, subst}
use mathlib.Core.Bool.{Bool, true, false}
use mathlib.Core.List.{List}
use native.Mathlib.Omega.{arith}
use borrow.Author.Tests.{leb-true, leb-false, le-leb, lt-leb}
use lib.Dec.{leb}
use lib.ListN.{length, take, length-take}
use lib.Seq.{take_all}
use Rattle.answer.specs.declared.Refusal.{Refusal}
use Rattle.answer.specs.Table.{many}
use Rattle.answer.specs.Refusal.{because}
use Rattle.answer.specs.Outcome.{Out, refused, ok}
use Rattle.answer.proofs.Outcomes.{met, unmet}
use Rattle.frame.specs.declared.walk.Totals.{Totals}
use Rattle.file.specs.Check.{check_of}
use Rattle.text.specs.Pieces.{Piece, codes, text_of, most, Puts}
use Rattle.text.specs.Lines.{refused_line, sound_line}
use Rattle.text.proofs.Pieces.{text-most}
use Rattle.text.proofs.Places.{refused-most}
use Rattle.text.proofs.Stretches.{Written, written_none}
use Rattle.sound.specs.Sound.{most_read, judged_of, line_of, sound_of, printed_of}

-- over 40,960 bytes, and no more
pub judged-many : (s : List ℕ) → 40960 < length s → refused (because many) ≡ judged_of s
unfolding judged_of
judged-many s h = sym (unmet (because many) (check_of s) (lt-leb (length s) 40960 h))

pub judged-check : (s : List ℕ) (r : Out Totals) → length s ≤ 40960 → r ≡ check_of s → r ≡ judged_of s
unfolding judged_of
judged-check s r h e = e ∙ sym (met (because many) (check_of s) (le-leb (length s) 40960 h))

-- the line of a sound file, and of a refused one
module _ (s d : List ℕ) (says : Out Totals) (r : ℕ) (left : List ℕ) (e : says ≡ judged_of s) where
  pub line-sound : (t : Totals) → says ≡ ok t → Puts d 0 (sound_line t.pages t.shapes) r left → Puts d 0 (sound_of s) r left
  unfolding line_of sound_of
  line-sound t f = subst (λ (l : List Piece). Puts d 0 l r left) (ap line_of (sym f ∙ e))

  pub line_refused : (w : Refusal) → says ≡ refused w → Puts d 0 (refused_line w) r left → Puts d 0 (sound_of s) r left
  unfolding line_of sound_of
  line_refused w f = subst (λ (l : List Piece). Puts d 0 l r left) (ap line_of (sym f ∙ e))

-- ---- what is printed

-- it is short
pub printed-short : (s : List ℕ) → length (printed_of s) ≤ 91
unfolding printed_of sound_of
printed-short s = omega (arith, text-most (line_of (judged_of s)), go (judged_of s))
  where
    go : (o : Out Totals) → most (line_of o) ≤ 91
    go (refused w) = unfold line_of in refused-most w
    go (ok t) = unfold line_of most sound_line codes in omega arith

-- it is the line, and nothing else
pub line-left : (s : List ℕ) → Written (printed_of s) 0 (sound_of s)
unfolding printed_of
line-left s = written_none _ 0 _ refl refl

-- the first 40,961 bytes decide it, so that no more need be read
pub printed-first : (s : List ℕ) → printed_of (take most_read s) ≡ printed_of s
unfolding printed_of sound_of
printed-first s = ap (λ (o : Out Totals). text_of (line_of o)) (go (leb (length s) most_read) refl)
  where
    long : (l : List ℕ) → 40960 < length l → judged_of l ≡ refused (because many)
    long l h = sym (judged-many l h)

    go : (t : Bool) → leb (length s) most_read ≡ t → judged_of (take most_read s) ≡ judged_of s
    go true e = ap judged_of (take_all most_read s (leb-true (length s) most_read e))
    go false e =
        let l : most_read < length s = leb-false (length s) most_read e in
        long (take most_read s) (omega (arith, length-take most_read s)) ∙ sym (long s (omega arith))
