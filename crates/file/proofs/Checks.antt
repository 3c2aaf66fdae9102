-- The full check, by the ways through it. Assumes nothing.
use Prim.Native.Nat.{ℕ}
use mathlib.Core.Path.{◌≡◌, sym, ap, ◌∙◌}
use mathlib.Core.List.{List}
use Rattle.answer.specs.Outcome.{refused, ok}
use Rattle.answer.specs.Rule.{passed}
use Rattle.answer.specs.declared.Refusal.{Refusal}
use Rattle.answer.proofs.Outcomes.{ok-inj, on-ok}
use Rattle.answer.proofs.Rules.{holds-passed, refused-passed}
use Rattle.frame.specs.declared.cursor.Cursor.{Cursor}
use Rattle.frame.specs.declared.walk.Totals.{Totals}
use Rattle.frame.specs.Frame.{Frame, frame_of, totals_of}
use Rattle.frame.specs.Ahead.{Begun}
use Rattle.shape.specs.Outline.{Shape}
use Rattle.answer.proofs.Orders.{on-refused, on_value}
use Rattle.file.specs.File.{pages_of, rest_of, shapes_in}
use Rattle.file.specs.Check.{check_of}
use Rattle.file.proofs.Rests.{rest-is}

module _ (s : List ℕ) (f : Frame) (e : frame_of s ≡ ok f) where
  -- a file's shapes are those of the frame's pages
  pub shapes_are : shapes_in s ≡ pages_of 0 f.pages
  unfolding shapes_in
  shapes_are = on_value (frame_of s) _ f e

-- and all that is left after the first block
pub shapes-after : (s : List ℕ) (c : Cursor) → Begun s c → shapes_in s ≡ rest_of s c
shapes-after s c b =
    let ps = b.frame.pages in
    shapes_are s b.frame b.framed ∙ ap (λ (k : ℕ). pages_of k ps) (sym b.no_page) ∙ sym (rest-is s c ps b.ahead)

-- ---- the check's answers

-- the frame is refused
pub check-frame : (s : List ℕ) (w : Refusal) → frame_of s ≡ refused w → refused w ≡ check_of s
unfolding check_of
check-frame s w e = sym (on-refused (frame_of s) _ w e)

module _ (s : List ℕ) (f : Frame) (t : Totals) (e : frame_of s ≡ ok f) (q : totals_of f ≡ t) where
  -- a page's contents are refused
  pub check-contents : (w : Refusal) → refused w ≡ passed (shapes_in s) → refused w ≡ check_of s
  unfolding check_of
  check-contents w j =
      sym
      (on_value (frame_of s) _ f e
      ∙ on-refused (pages_of 0 f.pages) _ w (sym (shapes_are s f e) ∙ refused-passed (shapes_in s) w j))

  -- all is sound
  pub check_sound : (ok tt) ≡ passed (shapes_in s) → (ok t) ≡ check_of s
  unfolding check_of
  check_sound j =
      let h = holds-passed (shapes_in s) j in
      sym
      (on_value (frame_of s) _ f e
      ∙ on_value (pages_of 0 f.pages) _ h.0 (sym (shapes_are s f e) ∙ h.1)
      ∙ ap ok q)

-- ---- what acceptance gives: the frame, and the shapes of its pages

pub check-accepts : (s : List ℕ) (t : Totals) → check_of s ≡ ok t
    → (f : Frame) × (shapes : List Shape) × (frame_of s ≡ ok f) × (pages_of 0 f.pages ≡ ok shapes) × (totals_of f ≡ t)
unfolding check_of
check-accepts s t e =
    let a = on-ok (frame_of s) _ t e in
    let b = on-ok (pages_of 0 a.0.pages) _ t a.2 in
    (a.0, b.0, a.1, b.1, ok-inj b.2)

pub accepts-check : (s : List ℕ) (f : Frame) (shapes : List Shape) → frame_of s ≡ ok f → pages_of 0 f.pages ≡ ok shapes → check_of s ≡ ok (totals_of f)
unfolding check_of
accepts-check s f shapes e q = on_value (frame_of s) _ f e ∙ on_value (pages_of 0 f.pages) _ shapes q
