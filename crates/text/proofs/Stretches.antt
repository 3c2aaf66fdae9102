-- Shown here: a text that is written stretch by stretch, each being what comes next, is written whole. Nothing is assumed.
use Prim.Native.Nat.{ℕ, ◌+◌, ◌≤◌}
use mathlib.Core.Path.{◌≡◌, sym, ap, ap₂, ◌∙◌}
use mathlib.Core.List.{List, [], ◌++◌, append_assoc, append-nil}
use native.Mathlib.Omega.{arith}
use lib.ListN.{length, take, drop, length-append}
use lib.Seq.{sets-eq, take-add, take-append_seam, drop-append_seam}
use Rattle.text.specs.Pieces.{Piece, text_of, Puts}
use Rattle.text.specs.Stretch.{Stretch}
use Rattle.text.proofs.Pieces.{keeps, text-append}

-- behind a, and before b
pub stretch-between : (text a l b : List ℕ) (k : ℕ) → text ≡ a ++ (l ++ b) → k ≡ length a → Stretch text k l
stretch-between text a l b k e h = record {
  within = omega (arith, h, ap length e, length-append a (l ++ b), length-append l b);
  same = ap₂ (λ (n : ℕ) (t : List ℕ). take (length l) (drop n t)) h e ∙ ap (take (length l)) (drop-append_seam a (l ++ b)) ∙ take-append_seam l b;
}

-- with it, the first k bytes of the text become the first k and its length: so stretches that are written one behind the other, each from where the last one
-- ended, are together the start of the text
pub stretch-extends : (text : List ℕ) (k : ℕ) (l : List ℕ) → Stretch text k l → take (k + length l) text ≡ take k text ++ l
stretch-extends text k l s = take-add k (length l) text ∙ ap (λ (t : List ℕ). take k text ++ t) s.same

-- k bytes of a text are written, and what comes next is the text of these pieces
pub record Written (text : List ℕ) (k : ℕ) (ps : List Piece) : Type 0 where
  pub before : List ℕ
  pub all : text ≡ before ++ text_of ps
  pub long : k ≡ length before

-- none yet
pub written_none : (text : List ℕ) (k : ℕ) (ps : List Piece) → k ≡ 0 → text ≡ text_of ps → Written text k ps
written_none text k ps z e = record { before = []; all = e; long = z }

module _ (text : List ℕ) (k : ℕ) (ps qs : List Piece) (w : Written text k (ps ++ qs)) (l : List ℕ) (e : l ≡ text_of ps) where
  apart : text ≡ w.before ++ (l ++ text_of qs)
  apart = w.all ∙ ap (λ (t : List ℕ). w.before ++ t) (text-append ps qs ∙ ap (λ (t : List ℕ). t ++ text_of qs) (sym e))

  -- the text of the first of them is the stretch that comes next
  pub written_next : Stretch text k l
  written_next = stretch-between text w.before l (text_of qs) k apart w.long

  -- and once it is written, the others are left
  pub written-more : Written text (k + length l) qs
  written-more = record {
    before = w.before ++ l;
    all = apart ∙ sym (append_assoc w.before l (text_of qs));
    long = omega (arith, w.long, length-append w.before l);
  }

-- the text of all that is left is the last stretch, and once it is written the count is the whole length
module _ (text : List ℕ) (k : ℕ) (ps : List Piece) (w : Written text k ps) (l : List ℕ) (e : l ≡ text_of ps) where
  ending : text ≡ w.before ++ l
  ending = w.all ∙ ap (λ (t : List ℕ). w.before ++ t) (sym e)

  pub written_last : Stretch text k l
  written_last = stretch-between text w.before l [] k (ending ∙ ap (λ (t : List ℕ). w.before ++ t) (sym (append-nil l))) w.long

  pub written-whole : (m : ℕ) → m ≡ k + length l → m ≡ length text
  written-whole m q = omega (arith, w.long, ap length ending, length-append w.before l)

-- what was put at the start of a room, with room for it, stands there
pub front : {d t : List ℕ} {ps : List Piece} {r : ℕ} → Puts d 0 ps r t → r ≤ length t → take r t ≡ text_of ps
front {d} {t} {ps} {r} p h =
    let n : r ≡ length (text_of ps) = omega (arith, p.next) in
    let m : 0 + length (text_of ps) ≤ length d = omega (arith, n, keeps p) in
    ap₂ take n (p.room ∙ sets-eq (text_of ps) d 0 m) ∙ take-append_seam (text_of ps) (drop (0 + length (text_of ps)) d)
